use Rattle.std.proofs.Common.{◌≡◌, ◌*◌, ◌≤◌, drop}
use Rattle.std.specs.Slice.Iter.{chunks_exact_rest, chunks_exact_size}
use Rattle.std.specs.Iterator.Adapters.{enumerate_count, enumerate_source}
use Rattle.nor.specs.Program.{anded}
use Rattle.nor.proofs.PageAt.and_bytes.Given as goal

abbrev pub invariant-loop-i : goal.invariant-loop-i
invariant-loop-i l =
    let n = enumerate_count l.i-iterator in
    let pairs = enumerate_source l.i-iterator in
    record {
      done : l.image ≡ anded l.initial.image l.self.block l.self.place l.bytes n;
      rest : chunks_exact_rest pairs ≡ drop (2 * n) l.bytes;
      size : chunks_exact_size pairs ≡ 2;
      most : n ≤ 264;
    }
