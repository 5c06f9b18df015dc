use Rattle.keeping.proofs.Stale.{stale_by_record}
use Rattle.keeping.proofs.stale_by_record.Goals as goal

pub returns : goal.returns
returns c = stale_by_record
