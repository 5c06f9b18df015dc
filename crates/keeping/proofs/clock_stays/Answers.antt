use Rattle.keeping.proofs.Reading.{clock_stays}
use Rattle.keeping.proofs.clock_stays.Goals as goal

pub returns : goal.returns
returns c = clock_stays
