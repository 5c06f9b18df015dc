use Rattle.std.specs.Option.{option_map}
use Rattle.mounting.specs.Tagged.{version_in}
use Rattle.mounting.specs.Keys.{version_key}
use Rattle.mounting.proofs.records.records_of.Given as goal

abbrev pub ghost-fill : goal.ghost-fill
ghost-fill a = λ t. option_map version_key (version_in t)
