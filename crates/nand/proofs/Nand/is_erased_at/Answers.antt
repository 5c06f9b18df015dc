use Rattle.std.proofs.Common.{◌≡◌, ◌+◌, ◌-◌, take, drop, ap, ◌∙◌, arith}
use Rattle.chip.specs.Pages.{is_erased}
use Rattle.nand.proofs.Nand.is_erased_at.Goals as goal

pub returns : goal.returns
returns c =
    let at = c.args.at in
    let e : at + 528 - at ≡ 528 = omega arith in
    c.is_erased.ensures ∙ ap (λ n. is_erased (take n (drop at c.args.self.now.image.now))) e
