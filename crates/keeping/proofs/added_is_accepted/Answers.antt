use Rattle.keeping.proofs.Added.{added_is_accepted}
use Rattle.keeping.proofs.added_is_accepted.Goals as goal

pub returns : goal.returns
returns c = added_is_accepted
