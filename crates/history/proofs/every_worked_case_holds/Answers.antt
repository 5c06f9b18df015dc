use Rattle.std.proofs.Common.{refl}
use Rattle.line.proofs.Worked.{cases}
use Rattle.history.proofs.every_worked_case_holds.Goals as goal

pub returns : goal.returns
returns c = (cases, λ label v b o. rw (o, b) refl)
