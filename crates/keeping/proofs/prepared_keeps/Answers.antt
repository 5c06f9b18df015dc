use Rattle.keeping.proofs.Reopened.{prepared_keeps}
use Rattle.keeping.proofs.prepared_keeps.Goals as goal

pub returns : goal.returns
returns c = prepared_keeps
