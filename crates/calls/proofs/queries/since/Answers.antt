use Rattle.std.proofs.Common.{[], Ok, refl, ap, ◌∙◌}
use Rattle.readings.specs.Sayings.{sayings}
use Rattle.readings.specs.Reading.{reading}
use Rattle.readings.specs.Changes.{present}
use Rattle.rules.specs.Calls.{granted, born_at}
use Rattle.rules.specs.Told.{told, since_value}
use Rattle.calls.proofs.Data.{since_answer}
use Rattle.calls.proofs.Exits.{refused_told, answer_told, since_sector, since_granted}
use Rattle.calls.proofs.queries.since.Goals as goal

pub returns-in_err-sector : goal.returns-in_err-sector
returns-in_err-sector g c = λ o.
    let h = c.in_err-sector.ensures in
    refused_told _ _ _ _ since_value _ 7 _ _ _ c.from_residual.ensures.1 h.0 refl (since_sector _ _ _ h.1)

pub returns : goal.returns
returns g c = λ o.
    let pages = g.C.Chip.pages c.args.chip.now in
    let s = c.in_ok-sector.ensures in
    let r = reading (sayings pages) in
    answer_told _ _ _ pages _ _
    (ap (λ z. told since_value [] (Ok z)) c.born.ensures
    ∙ ap (λ z. granted z []) (since_answer pages c.args.ix.now _ _ (c.present_data.ensures _ _ pages o) ∙ ap (λ n. born_at (present r n)) s.0))
    (since_granted _ _ _ s.1)
