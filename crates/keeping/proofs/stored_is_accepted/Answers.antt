use Rattle.keeping.proofs.Accepted.{stored_is_accepted}
use Rattle.keeping.proofs.stored_is_accepted.Goals as goal

pub returns : goal.returns
returns c = stored_is_accepted
