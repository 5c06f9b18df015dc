use Rattle.noting.proofs.Accepted.{consistent_accepted}
use Rattle.noting.proofs.consistent_is_accepted.Goals as goal

pub returns : goal.returns
returns c = consistent_accepted
