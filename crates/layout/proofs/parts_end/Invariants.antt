use Rattle.std.proofs.Common.{◌≡◌, ◌+◌, ◌*◌, ◌≤◌, length, drop}
use Rattle.layout.specs.Parts.{parts_end, end_of}
use Rattle.layout.proofs.parts_end.Given as goal

abbrev pub invariant-loop-i : goal.invariant-loop-i
invariant-loop-i l = record {
  small : l.at ≤ 4 * length l.kinds + 65535 * l.i;
  same : parts_end (drop l.i l.kinds) l.page (4 * l.i) l.at ≡ end_of l.kinds l.page;
}
