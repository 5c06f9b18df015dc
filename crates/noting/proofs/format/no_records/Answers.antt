use Rattle.std.proofs.Common.{replicate, ap}
use Rattle.noting.specs.Fresh.{no_records}
use Rattle.noting.proofs.format.no_records.Goals as goal

pub returns : goal.returns
unfolding no_records
returns c = ap (replicate 2048) c.unused_record.ensures
