use Rattle.line.proofs.Judge.{every_run_lawful}
use Rattle.line.proofs.every_run_is_lawful.Goals as goal

pub returns : goal.returns
returns c = every_run_lawful
