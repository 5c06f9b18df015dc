use Rattle.keeping.proofs.Links.{stays_is_need}
use Rattle.keeping.proofs.stays_is_need.Goals as goal

pub returns : goal.returns
returns c = stays_is_need
