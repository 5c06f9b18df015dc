use Rattle.std.proofs.Common.{true, false, [], Ok, refl, ap, ◌∙◌}
use Rattle.readings.specs.Sayings.{sayings}
use Rattle.readings.specs.Reading.{reading}
use Rattle.readings.specs.Changes.{in_state}
use Rattle.rules.specs.Calls.{granted, born_at}
use Rattle.rules.specs.Told.{told, since_value}
use Rattle.calls.proofs.Data.{since_answer}
use Rattle.calls.proofs.Exits.{refused_told, answer_told, since_in_sector, since_in_unknown, since_in_granted}
use Rattle.calls.proofs.Remembered.{held_test}
use Rattle.calls.proofs.queries.since_in.Goals as goal

pub returns-in_err-sector : goal.returns-in_err-sector
returns-in_err-sector g c = λ o.
    let h = c.in_err-sector.ensures in
    refused_told _ _ _ _ since_value _ 7 _ _ _ c.from_residual.ensures.1 h.0 refl (since_in_sector _ _ _ _ h.1)

pub returns-in_err-check_held : goal.returns-in_err-check_held
returns-in_err-check_held g c = λ o.
    let h = c.in_err-check_held.ensures in
    refused_told _ _ _ _ since_value _ 9 _ _ _ c.from_residual-in_err-check_held.ensures.1 h.0 refl
    (since_in_unknown _ _ _ _ c.in_ok-sector.ensures.1 (held_test _ _ _ _ o _ false h.1))

pub returns : goal.returns
returns g c = λ o.
    let pages = g.C.Chip.pages c.args.chip.now in
    let s = c.in_ok-sector.ensures in
    let k = c.in_ok-check_held.ensures in
    let r = reading (sayings pages) in
    answer_told _ _ _ pages _ _
    (ap (λ z. told since_value [] (Ok z)) c.born.ensures
    ∙ ap (λ z. granted z []) (since_answer pages c.args.ix.now _ _ (c.data_in_state.ensures _ _ pages o k) ∙ ap (λ n. born_at (in_state r c.args.state.0 n)) s.0))
    (since_in_granted _ _ _ _ s.1 (held_test _ _ _ _ o _ true k))
