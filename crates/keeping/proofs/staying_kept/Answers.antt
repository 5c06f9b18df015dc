use Rattle.keeping.proofs.Cleaned.{staying_kept}
use Rattle.keeping.proofs.staying_kept.Goals as goal

pub returns : goal.returns
returns c = staying_kept
