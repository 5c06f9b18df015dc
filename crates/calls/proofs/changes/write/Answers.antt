use Rattle.std.proofs.Common.{true, false, refl, ap, ◌∙◌, subst}
use Rattle.std.proofs.lemmas.Bool.{ltb-false}
use Rattle.readings.specs.Versions.{bytes, add}
use Rattle.readings.specs.Sayings.{sayings}
use Rattle.readings.specs.Reading.{reading}
use Rattle.rules.specs.Told.{tick_value}
use Rattle.calls.proofs.Exits.{refused_at, write_sector, write_length, write_ticks, write_full, write_granted}
use Rattle.changing.specs.Changed.{Changed}
use Rattle.calls.proofs.Remembered.{clock_test, room_test, can_change, changed_by}
use Rattle.calls.proofs.changes.write.Goals as goal

pub returns-in_err-sector-clause-follows : goal.returns-in_err-sector-clause-follows
returns-in_err-sector-clause-follows g c =
    let h = c.in_err-sector.ensures in
    λ o. refused_at _ _ _ _ _ o tick_value 7 _ _ _ c.from_residual.ensures.1 h.0 refl (write_sector _ _ _ _ h.1)

pub returns-in_err-block-clause-follows : goal.returns-in_err-block-clause-follows
returns-in_err-block-clause-follows g c =
    let h = c.in_err-block.ensures in
    λ o.
    refused_at _ _ _ _ _ o tick_value 8 _ _ _ c.from_residual-in_err-block.ensures.1 h.0 refl
    (write_length _ _ _ _ c.in_ok-sector.ensures.1 h.1)

pub returns-in_err-check_ticks-clause-follows : goal.returns-in_err-check_ticks-clause-follows
returns-in_err-check_ticks-clause-follows g c =
    let h = c.in_err-check_ticks.ensures in
    λ o.
    refused_at _ _ _ _ _ o tick_value 11 _ _ _ c.from_residual-in_err-check_ticks.ensures.1 h.0 refl
    (write_ticks _ _ _ _ c.in_ok-sector.ensures.1 c.in_ok-block.ensures.1 (clock_test _ _ _ _ o true h.1))

pub returns-in_err-check_room-clause-follows : goal.returns-in_err-check_room-clause-follows
returns-in_err-check_room-clause-follows g c =
    let h = c.in_err-check_room.ensures in
    let s = c.in_ok-sector.ensures in
    λ o.
    refused_at _ _ _ _ _ o tick_value 12 _ _ _ c.from_residual-in_err-check_room.ensures.1 h.0 refl
    (write_full _ _ _ _ s.1 c.in_ok-block.ensures.1 (clock_test _ _ _ _ o false c.in_ok-check_ticks.ensures)
    (room_test _ _ _ _ o _ _ _ true s.0 c.in_ok-sector.sector.last h.1))

pub returns-clause-follows : goal.returns-clause-follows
returns-clause-follows g c =
    let m = g.C.Chip in
    let chip = c.args.chip.now in
    let ix = c.args.ix.now in
    let e = c.add_data-made.ensures in
    let s = c.in_ok-sector.ensures in
    let b = c.in_ok-block.ensures in
    let n = c.in_ok-sector.sector.number in
    let r = reading (sayings (m.pages chip)) in
    let clock = c.in_ok-check_ticks.ensures in
    let room = c.in_ok-check_room.ensures in
    λ o.
    let fits = room_test (m.blocks chip) m.per (m.pages chip) ix o n n (bytes c.in_ok-block.block) false refl c.in_ok-sector.sector.last room in
    let made = e.adds (can_change (m.blocks chip) m.per (m.pages chip) ix o clock) (ltb-false _ _ fits) in
    let same = ap (λ k. add r k (bytes c.in_ok-block.block)) s.0 ∙ ap (λ bs. add r c.args.sector.0 (bytes bs)) b.0 in
    changed_by _ (m.blocks chip) m.per (m.pages chip) ix _ _ _ _ _
    (write_granted _ _ _ _ s.1 b.1 (clock_test _ _ _ _ o false clock) (room_test _ _ _ _ o _ _ _ false s.0 c.in_ok-sector.sector.last room))
    (subst (λ z. Changed (m.blocks chip) m.per z c.add_data-made.result (m.pages c.add_data-made.new.chip) c.add_data-made.new.ix) same made)
    c.clock_after.ensures
