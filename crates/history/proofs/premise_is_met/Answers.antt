use Rattle.history.proofs.Premise.{premise_is_met}
use Rattle.history.proofs.premise_is_met.Goals as goal

pub returns : goal.returns
returns c = premise_is_met
