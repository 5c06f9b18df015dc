use Rattle.history.proofs.Lawful.{equation}
use Rattle.history.proofs.every_revert_is_the_equation.Goals as goal

pub returns : goal.returns
returns c = equation
