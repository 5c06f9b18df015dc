use Rattle.std.proofs.Common.{◌*◌, sym, ap, ◌∙◌, subst, arith}
use Rattle.limits.specs.Values.{label_of}
use Rattle.noting.specs.Fresh.{Formatted}
use Rattle.changing.specs.Format.{Begins}
use Rattle.changing.proofs.Adding.{programmed}
use Rattle.changing.proofs.Formatting.{some_page, first_says, formatted}
use Rattle.changing.proofs.format.begin.Goals as goal

pub returns-clause-begins : goal.returns-clause-begins
returns-clause-begins g c =
    let m = g.C.Chip in
    let pages₁ = m.pages c.args.chip.now in
    let pages₂ = m.pages c.program.new.self in
    let label = c.args.label in
    let image = c.write_register.new.page in
    let first = c.first_register.ensures in
    let p = c.program.ensures in
    λ blocks are two small blank.
    let whole = m.shape.whole c.args.chip.now ∙ ap (λ b. b * m.per) are in
    let some = some_page blocks m.per _ two m.shape.least whole in
    let done = programmed pages₁ 0 image c.program.result pages₂ some (omega arith) (blank 0 some) p.answer p.after in
    let says = first_says c.first_register.result label image first.birth first.held first.label c.write_register.ensures.writes in
    let form = formatted blocks m.per pages₁ image (label_of label) two m.shape.least small whole some blank says in
    subst (λ r. Begins blocks m.per (label_of label) r pages₂) (sym done.0) (subst (λ z. Formatted blocks m.per z 0 1 (label_of label)) (sym done.1) form)
