use Rattle.keeping.proofs.Cleaned.{cleaning_keeps}
use Rattle.keeping.proofs.cleaning_keeps.Goals as goal

pub returns : goal.returns
returns c = cleaning_keeps
