use Rattle.std.proofs.Common.{not, eqb}
use Rattle.noting.specs.contracts.held.fn.release_number.hold_those as closure
use Rattle.noting.proofs.held.release_number.Given as goal

abbrev pub ghost-hold_those : goal.ghost-hold_those
ghost-hold_those a = λ m. not (eqb m (closure.captures a.passes).number)
