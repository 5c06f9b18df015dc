use Rattle.keeping.proofs.Stale.{stale_after}
use Rattle.keeping.proofs.stale_after.Goals as goal

pub returns : goal.returns
returns c = stale_after
