use Rattle.std.proofs.Common.{[], ◌∷◌, ap, ◌∙◌}
use Rattle.readings.specs.Mount.{capacity}
use Rattle.changing.proofs.Adding.{consistent}
use Rattle.rules.specs.Calls.{granted}
use Rattle.calls.proofs.Exits.{answer_told, count_granted}
use Rattle.calls.proofs.queries.count.Goals as goal

pub returns : goal.returns
returns g c = λ o.
    let pages = g.C.Chip.pages c.args.chip.now in
    answer_told _ _ _ pages _ _
    (ap (λ n. granted (c.needed_count.result ∷ n ∷ []) []) c.capacity_of.ensures
    ∙ ap (λ n. granted (n ∷ capacity (g.C.Chip.blocks c.args.chip.now) g.C.Chip.per ∷ []) []) (c.needed_count.ensures.reads _ _ pages (consistent _ _ _ _ o)))
    (count_granted _ _)
