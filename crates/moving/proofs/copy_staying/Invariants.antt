use Rattle.std.proofs.Common.{◌≡◌, ℕ}
use Rattle.moving.specs.Sound.{page_stays, lasting}
use Rattle.moving.specs.Moves.{Copyable, Copied}
use Rattle.moving.proofs.copy_staying.Given as goal

abbrev pub invariant-loop-i : goal.invariant-loop-i
invariant-loop-i g l =
    let m = g.C.Chip in
    let old = l.initial in
    (m.kept l.chip ≡ m.kept old.chip) × (m.blocks l.chip ≡ m.blocks old.chip) × (lasting l.ix ≡ lasting old.ix)
    × ((link last_birth : ℕ → ℕ) → Copyable (m.blocks old.chip) m.per (m.pages old.chip) old.ix link last_birth l.limit l.from l.to →
    Copied (page_stays old.ix l.limit) l.from l.to l.i (m.pages old.chip) old.ix (m.pages l.chip) l.ix)
