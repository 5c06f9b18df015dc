use Rattle.std.proofs.Common.{arith}
use Rattle.limits.specs.Values.{held_of}
use Rattle.noting.proofs.Holding.{rising_keep}
use Rattle.noting.proofs.held.release_number.Goals as goal

pub returns-clause-rising : goal.returns-clause-rising
returns-clause-rising c = λ top later r h. rising_keep _ 0 0 top later (held_of c.args.held.now) r (omega arith) h
