use Rattle.std.proofs.Common.{◌≡◌, ℕ, ◌*◌, ◌<◌, ◌≤◌, false, [], length, get_or}
use Rattle.readings.specs.Sayings.{said}
use Rattle.moving.specs.Sound.{Sound, LastStay, staying, lasting}
use Rattle.moving.specs.Kept.{Kept}
use Rattle.room.specs.Choose.{is_later}
use Rattle.room.proofs.purge.Given as goal

abbrev pub invariant-loop-b : goal.invariant-loop-b
invariant-loop-b g l =
    let m = g.C.Chip in
    let old = l.initial in
    (m.kept l.chip ≡ m.kept old.chip) × (m.blocks l.chip ≡ m.blocks old.chip) × (lasting l.ix ≡ lasting old.ix)
    × ((link last_birth : ℕ → ℕ) → Sound (m.blocks old.chip) m.per (m.pages old.chip) old.ix link last_birth → LastStay old.ix link last_birth l.limit →
    Sound (m.blocks old.chip) m.per (m.pages l.chip) l.ix link last_birth
    × Kept (staying old.ix link l.limit) (m.pages old.chip) (m.pages l.chip)
    × ((k : ℕ) → k < l.b * m.per → is_later l.limit (said (get_or (m.pages l.chip) k [])) ≡ false)
    × (((k : ℕ) → k < length (m.pages old.chip) → is_later l.limit (said (get_or (m.pages old.chip) k [])) ≡ false) → (l.chip ≡ old.chip) × (l.ix ≡ old.ix)))
    × (l.b ≤ l.blocks)
