use Rattle.std.proofs.Common.{◌≡◌, ℕ, Bool, true, false, [], ◌∷◌, sym, refl, ap, ◌∙◌, subst}
use Rattle.std.proofs.lemmas.Bool.{ltb-false}
use Rattle.readings.specs.Versions.{deleted, Reading, add}
use Rattle.readings.specs.Changes.{present}
use Rattle.rules.specs.Calls.{granted, shown, is_none}
use Rattle.readings.specs.Sayings.{sayings}
use Rattle.readings.specs.Reading.{reading}
use Rattle.changing.specs.Changed.{Changed}
use Rattle.rules.specs.Told.{tick_value}
use Rattle.calls.proofs.Exits.{refused_at, changed_so, delete_sector, delete_empty, delete_ticks, delete_full, delete_granted}
use Rattle.calls.proofs.Remembered.{clock_reads, clock_test, room_test, can_change, changed_by}
use Rattle.calls.proofs.changes.delete.Goals as goal

-- The sector by its number.
here : (r : Reading) (n s : ℕ) (b : Bool) → n ≡ s → is_none (shown (present r n)) ≡ b → is_none (shown (present r s)) ≡ b
here r n s b e h = ap (λ k. is_none (shown (present r k))) (sym e) ∙ h

pub returns-in_err-sector-clause-follows : goal.returns-in_err-sector-clause-follows
returns-in_err-sector-clause-follows g c =
    let h = c.in_err-sector.ensures in
    λ o. refused_at _ _ _ _ _ o tick_value 7 _ _ _ c.from_residual.ensures.1 h.0 refl (delete_sector _ _ _ h.1)

pub returns-then-is_empty-clause-follows : goal.returns-then-is_empty-clause-follows
returns-then-is_empty-clause-follows g c =
    let s = c.in_ok-sector.ensures in
    λ o.
    changed_so _ _ _ _ _ _ _ _ _ (delete_empty _ _ _ s.1 (here (reading (sayings _)) _ _ _ s.0 (c.is_empty.ensures _ _ _ o ∙ c.if-is_empty.true)))
    (ap (λ n. granted (n ∷ []) []) (sym (clock_reads _ _ _ _ o))) refl o

pub returns-in_err-check_ticks-clause-follows : goal.returns-in_err-check_ticks-clause-follows
returns-in_err-check_ticks-clause-follows g c =
    let h = c.in_err-check_ticks.ensures in
    let s = c.in_ok-sector.ensures in
    λ o.
    refused_at _ _ _ _ _ o tick_value 11 _ _ _ c.from_residual-in_err-check_ticks.ensures.1 h.0 refl
    (delete_ticks _ _ _ s.1 (here (reading (sayings _)) _ _ _ s.0 (c.is_empty.ensures _ _ _ o ∙ c.if-is_empty.false)) (clock_test _ _ _ _ o true h.1))

pub returns-in_err-check_room-clause-follows : goal.returns-in_err-check_room-clause-follows
returns-in_err-check_room-clause-follows g c =
    let h = c.in_err-check_room.ensures in
    let s = c.in_ok-sector.ensures in
    λ o.
    refused_at _ _ _ _ _ o tick_value 12 _ _ _ c.from_residual-in_err-check_room.ensures.1 h.0 refl
    (delete_full _ _ _ s.1 (here (reading (sayings _)) _ _ _ s.0 (c.is_empty.ensures _ _ _ o ∙ c.if-is_empty.false)) (clock_test _ _ _ _ o false c.in_ok-check_ticks.ensures)
    (room_test _ _ _ _ o _ _ _ true s.0 c.in_ok-sector.sector.last h.1))

pub returns-clause-follows : goal.returns-clause-follows
returns-clause-follows g c =
    let m = g.C.Chip in
    let chip = c.args.chip.now in
    let ix = c.args.ix.now in
    let e = c.add_deletion-made.ensures in
    let s = c.in_ok-sector.ensures in
    let n = c.in_ok-sector.sector.number in
    let r = reading (sayings (m.pages chip)) in
    let clock = c.in_ok-check_ticks.ensures in
    let room = c.in_ok-check_room.ensures in
    λ o.
    let fits = room_test (m.blocks chip) m.per (m.pages chip) ix o n n deleted false refl c.in_ok-sector.sector.last room in
    let made = e.adds (can_change (m.blocks chip) m.per (m.pages chip) ix o clock) (ltb-false _ _ fits) in
    changed_by _ (m.blocks chip) m.per (m.pages chip) ix _ _ _ _ _
    (delete_granted _ _ _ s.1 (here r _ _ _ s.0 (c.is_empty.ensures _ _ _ o ∙ c.if-is_empty.false)) (clock_test _ _ _ _ o false clock)
    (room_test _ _ _ _ o _ _ _ false s.0 c.in_ok-sector.sector.last room))
    (subst (λ z. Changed (m.blocks chip) m.per z c.add_deletion-made.result (m.pages c.add_deletion-made.new.chip) c.add_deletion-made.new.ix) (ap (λ k. add r k deleted) s.0) made)
    c.clock_after.ensures
