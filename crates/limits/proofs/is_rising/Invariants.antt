use Rattle.std.proofs.Common.{◌≡◌, drop}
use Rattle.limits.specs.Numbers.{rising}
use Rattle.limits.proofs.is_rising.Given as goal

abbrev pub invariant-loop-n : goal.invariant-loop-n
invariant-loop-n l = rising l.low l.top (drop l.n-index l.numbers) ≡ rising 0 l.top l.numbers
