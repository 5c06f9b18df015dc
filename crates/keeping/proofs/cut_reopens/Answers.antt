use Rattle.keeping.proofs.Reopened.{cut_reopens}
use Rattle.keeping.proofs.cut_reopens.Goals as goal

pub returns : goal.returns
returns c = cut_reopens
