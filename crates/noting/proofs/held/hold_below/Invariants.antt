use Rattle.std.proofs.Common.{ltb}
use Rattle.noting.specs.contracts.held.fn.hold_below.hold_those as closure
use Rattle.noting.proofs.held.hold_below.Given as goal

abbrev pub ghost-hold_those : goal.ghost-hold_those
ghost-hold_those a = λ m. ltb m (closure.captures a.passes).bound
