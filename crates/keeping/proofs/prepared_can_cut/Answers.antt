use Rattle.keeping.proofs.Reopened.{prepared_can_cut}
use Rattle.keeping.proofs.prepared_can_cut.Goals as goal

pub returns : goal.returns
returns c = prepared_can_cut
