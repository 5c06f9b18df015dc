use Rattle.std.proofs.Common.{◌≡◌, ◌≤◌, ◌++◌, length, drop}
use Rattle.limits.specs.Values.{held_of}
use Rattle.readings.specs.Versions.{keep}
use Rattle.noting.proofs.held.hold_those.Given as goal

abbrev pub invariant-loop-n : goal.invariant-loop-n
invariant-loop-n g l = record {
  few : length (held_of l.left) ≤ l.n-index;
  so_far : held_of l.left ++ keep g.kept (drop l.n-index l.n-items) ≡ keep g.kept l.n-items;
}
