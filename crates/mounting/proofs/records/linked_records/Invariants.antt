use Rattle.std.proofs.Common.{◌≡◌, ℕ, ◌<◌, length, get_or}
use Rattle.readings.specs.Sayings.{nothing}
use Rattle.tables.specs.Records.{unused}
use Rattle.mounting.specs.Tagged.{tag_sayings}
use Rattle.mounting.specs.Recorded.{Recorded}
use Rattle.mounting.proofs.records.linked_records.Given as goal

abbrev pub invariant-loop-i : goal.invariant-loop-i
invariant-loop-i l = record {
  long : length l.records ≡ 2048;
  so_far : (k : ℕ) → k < l.i → Recorded l.keys.numbers.now (get_or (tag_sayings l.tags.all.now) k nothing) (get_or l.records k unused);
}
