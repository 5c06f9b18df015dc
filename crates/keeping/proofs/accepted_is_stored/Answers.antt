use Rattle.keeping.proofs.Accepted.{accepted_is_stored}
use Rattle.keeping.proofs.accepted_is_stored.Goals as goal

pub returns : goal.returns
returns c = accepted_is_stored
