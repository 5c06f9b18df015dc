use Rattle.history.proofs.Lawful.{lawful}
use Rattle.history.proofs.every_history_is_lawful.Goals as goal

pub returns : goal.returns
returns c = lawful
