use Rattle.std.proofs.Common.{◌≡◌, ◌*◌, length, take}
use Rattle.std.specs.List.{flat_map}
use Rattle.limits.specs.Values.{held_of}
use Rattle.layout_write.specs.Written.{le32}
use Rattle.layout_write.proofs.held_bytes.Given as goal

abbrev pub invariant-loop-i : goal.invariant-loop-i
invariant-loop-i l = (length l.out ≡ 32) × (take (4 * l.i) l.out ≡ flat_map le32 (take l.i (held_of l.given)))
