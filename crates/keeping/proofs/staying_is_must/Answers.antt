use Rattle.keeping.proofs.Opened.{staying_is_must}
use Rattle.keeping.proofs.staying_is_must.Goals as goal

pub returns : goal.returns
returns c = staying_is_must
