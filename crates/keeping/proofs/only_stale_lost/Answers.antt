use Rattle.keeping.proofs.Stale.{only_stale_lost}
use Rattle.keeping.proofs.only_stale_lost.Goals as goal

pub returns : goal.returns
returns c = only_stale_lost
