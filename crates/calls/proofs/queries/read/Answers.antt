use Rattle.std.proofs.Common.{Ok, refl, ap, ◌∙◌}
use Rattle.readings.specs.Sayings.{sayings}
use Rattle.readings.specs.Reading.{reading}
use Rattle.readings.specs.Changes.{present}
use Rattle.rules.specs.Calls.{read_answer, shown}
use Rattle.rules.specs.Told.{told, holding_value}
use Rattle.calls.proofs.Data.{read_answer_lem}
use Rattle.calls.proofs.Exits.{refused_told, answer_told, read_sector, read_length, read_granted}
use Rattle.calls.proofs.queries.read.Goals as goal

pub returns-in_err-sector : goal.returns-in_err-sector
returns-in_err-sector g c = λ o.
    let h = c.in_err-sector.ensures in
    refused_told _ _ _ _ holding_value _ 7 _ _ _ c.from_residual.ensures.1 h.0 refl (read_sector _ _ _ _ h.1)

pub returns-in_err-check_length : goal.returns-in_err-check_length
returns-in_err-check_length g c = λ o.
    let h = c.in_err-check_length.ensures in
    refused_told _ _ _ _ holding_value _ 8 _ _ _ c.from_residual-in_err-check_length.ensures.1 h.0 refl (read_length _ _ _ _ c.in_ok-sector.ensures.1 h.1)

pub returns : goal.returns
returns g c = λ o.
    let m = g.C.Chip in
    let pages = m.pages c.args.chip.now in
    let s = c.in_ok-sector.ensures in
    let r = reading (sayings pages) in
    answer_told _ _ _ pages _ _
    (ap (λ z. told holding_value c.fetch.new.buffer (Ok z)) c.fetch.ensures.holding
    ∙ read_answer_lem pages c.args.ix.now _ _ _ (c.present_data.ensures _ _ pages o) c.fetch.ensures.buffer
    ∙ ap (λ k. read_answer (shown (present r k))) s.0)
    (read_granted _ _ _ _ s.1 c.in_ok-check_length.ensures)
