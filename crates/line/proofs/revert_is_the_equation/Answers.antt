use Rattle.line.proofs.Reverting.{revert_equation}
use Rattle.line.proofs.revert_is_the_equation.Goals as goal

pub returns : goal.returns
returns c = revert_equation
