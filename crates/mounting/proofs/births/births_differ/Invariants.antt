use Rattle.mounting.specs.Tagged.{birth_in}
use Rattle.mounting.proofs.births.births_differ.Given as goal

abbrev pub ghost-fill : goal.ghost-fill
ghost-fill a = birth_in
