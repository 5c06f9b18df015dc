use Rattle.std.proofs.Common.{◌≡◌, ℕ, ◌<◌, ◌≤◌, length, get_or}
use Rattle.tables.specs.Records.{unused}
use Rattle.changing.specs.Back.{unlinked}
use Rattle.changing.proofs.back.unlink_all.Given as goal

abbrev pub invariant-loop-record : goal.invariant-loop-record
invariant-loop-record l = record {
  long : length l.record-items ≡ 2048;
  before : (j : ℕ) → j < l.record-index → get_or l.record-items j unused ≡ unlinked l.number (get_or l.initial.record-items j unused);
  behind : (j : ℕ) → l.record-index ≤ j → get_or l.record-items j unused ≡ get_or l.initial.record-items j unused;
}
