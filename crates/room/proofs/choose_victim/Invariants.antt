use Rattle.std.proofs.Common.{◌≡◌, ℕ, ◌<◌, ◌≤◌}
use Rattle.room.specs.Choose.{stale_of, Best}
use Rattle.room.proofs.choose_victim.Given as goal

abbrev pub invariant-loop-b : goal.invariant-loop-b
invariant-loop-b g l =
    Best l.ix l.limit g.C.Chip.per l.b l.most l.best
    × ((k : ℕ) → k < l.b → (k ≡ l.ix.spare.0 → ⊥) → stale_of l.ix l.limit g.C.Chip.per k ≤ l.most)
