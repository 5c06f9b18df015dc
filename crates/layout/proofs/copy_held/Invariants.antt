use Rattle.std.proofs.Common.{◌≡◌, ◌+◌, ◌/◌, ◌++◌, length, take}
use Rattle.std.specs.Slice.Iter.{chunks_exact_rest, chunks_exact_size}
use Rattle.layout.specs.Bytes.{words}
use Rattle.layout.proofs.copy_held.Given as goal

abbrev pub invariant-loop-i : goal.invariant-loop-i
invariant-loop-i l = record {
  room : length l.items ≡ 8;
  size : chunks_exact_size l.i-iterator.iter ≡ 4;
  counted : l.i-iterator.count + length (chunks_exact_rest l.i-iterator.iter) / 4 ≡ length l.bytes / 4;
  copied : take l.i-iterator.count l.items ++ words (chunks_exact_rest l.i-iterator.iter) ≡ words l.bytes;
}
