use Rattle.std.proofs.Common.{◌≡◌, ◌+◌, ◌*◌, length, take}
use lib.Seq.{paste}
use Rattle.layout_write.specs.Written.{whole, contents}
use Rattle.layout_write.proofs.put_parts.Given as goal

abbrev pub invariant-loop-part : goal.invariant-loop-part
invariant-loop-part l =
    (length l.out ≡ 512)
    × (l.at ≡ 4 * length l.parts + length (whole (take l.part-index (contents l.parts))))
    × (l.out ≡ paste l.initial.out (4 * length l.parts) (whole (take l.part-index (contents l.parts))) (length (whole (take l.part-index (contents l.parts)))))
