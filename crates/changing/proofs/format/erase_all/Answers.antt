use Rattle.std.proofs.Common.{◌+◌, ◌<◌, ◌≤◌, [], get_or, ap, ◌∙◌, add-mul, one-mul, arith}
use Rattle.chip.specs.Pages.{is_erased}
use Rattle.changing.proofs.Formatting.{erased_more}
use Rattle.changing.proofs.format.erase_all.Goals as goal

pub loop-b-preserved : goal.loop-b-preserved
loop-b-preserved g c =
    let m = g.C.Chip in
    let inv = c.loop-b.invariant in
    let chip = c.loop-b.chip in
    let b = c.loop-b.b in
    let e = c.erase.ensures in
    let size = c.size-blocks.ensures in
    let first : b < m.blocks chip = let t = c.loop-b-test.true in let q = inv.1 in omega arith in
    let more : b + 1 ≤ c.size-blocks.result = let t = c.loop-b-test.true in omega arith in (
      e.kept ∙ inv.0,
      e.same ∙ inv.1,
      (λ k h.
          let d = add-mul b 1 m.per in
          let o = one-mul m.per in
          ap (λ z. is_erased (get_or z k [])) e.after ∙ erased_more m.per (m.blocks chip) (m.pages chip) b (m.shape.whole chip) first inv.2 k (omega arith)),
      more,
    )
