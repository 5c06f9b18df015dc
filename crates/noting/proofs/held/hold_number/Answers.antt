use Rattle.std.proofs.Common.{arith}
use Rattle.limits.specs.Values.{held_of}
use Rattle.noting.proofs.Holding.{rising_push}
use Rattle.noting.proofs.held.hold_number.Goals as goal

pub returns-clause-rising : goal.returns-clause-rising
returns-clause-rising c = λ top r h. rising_push 0 top c.args.number (held_of c.args.held.now) r (omega arith) h
