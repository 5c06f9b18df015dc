use Rattle.std.proofs.Common.{◌*◌, sym, ◌∙◌}
use Rattle.limits.specs.Values.{label_of}
use Rattle.changing.proofs.Formatting.{fresh_opened}
use Rattle.changing.proofs.format.first_index.Goals as goal

pub returns : goal.returns
returns g c =
    let m = g.C.Chip in
    let chip = c.args.chip.now in
    λ blocks are form.
    let counted = m.shape.whole chip ∙ (λ i. sym c.size.ensures i * sym c.block_pages.ensures i) in
    fresh_opened blocks m.per (m.pages chip) (label_of c.args.label) _ form.whole (c.fresh_index.ensures.reads blocks m.per (m.pages chip) counted form)
