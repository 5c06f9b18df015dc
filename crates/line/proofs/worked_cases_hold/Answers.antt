use Rattle.line.proofs.Worked.{cases}
use Rattle.line.proofs.worked_cases_hold.Goals as goal

pub returns : goal.returns
returns c = cases
