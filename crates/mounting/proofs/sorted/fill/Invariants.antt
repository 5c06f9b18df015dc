use Rattle.std.proofs.Common.{◌≤◌}
use Rattle.mounting.proofs.Filling.{Filled}
use Rattle.mounting.proofs.sorted.fill.Given as goal

abbrev pub invariant-loop-tag : goal.invariant-loop-tag
invariant-loop-tag g l = record { few : l.n ≤ l.tag-index; so_far : Filled g.gives l.tags.all.now l.out l.n l.tag-index }
