use Rattle.keeping.proofs.Cut.{cut_is_need}
use Rattle.keeping.proofs.cut_is_need.Goals as goal

pub returns : goal.returns
returns c = cut_is_need
