use Rattle.std.proofs.Common.{◌≡◌, take, length}
use Rattle.limits.proofs.types.Bounded.new.Given as goal

abbrev pub invariant-loop-i : goal.invariant-loop-i
invariant-loop-i g l = record { room : length l.items ≡ g.row.MOST; front : take l.i l.items ≡ take l.i l.given }
