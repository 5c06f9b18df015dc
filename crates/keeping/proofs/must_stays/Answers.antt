use Rattle.keeping.proofs.Reading.{must_stays}
use Rattle.keeping.proofs.must_stays.Goals as goal

pub returns : goal.returns
returns c = must_stays
