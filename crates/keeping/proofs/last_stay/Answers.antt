use Rattle.keeping.proofs.Opened.{last_stays}
use Rattle.keeping.proofs.last_stay.Goals as goal

pub returns : goal.returns
returns c = last_stays
