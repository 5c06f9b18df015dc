use Rattle.keeping.proofs.Cut.{cut_goes_on}
use Rattle.keeping.proofs.cut_goes_on.Goals as goal

pub returns : goal.returns
returns c = cut_goes_on
