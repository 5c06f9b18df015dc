use Rattle.std.proofs.Common.{◌≡◌, ◌*◌, min, arith}
use Rattle.partition.specs.Part.{existing}
use Rattle.partition.specs.Shaped.{min_mul, existing_pages}
use Rattle.partition.proofs.Below.{cut_part}
use Rattle.partition.proofs.cut.Goals as goal

pub returns : goal.returns
returns c =
    let first = c.args.first.0 in
    let count = c.args.count in
    let size = c.args.size in
    let f : c.min-first.result ≡ min first size = omega arith in
    let n : c.min.result ≡ existing first count size = omega arith in
    record {
      first = f;
      count = n;
      pages = λ per l whole. rw (f, n, min_mul first size per, existing_pages per first count size, ← whole) (cut_part (first * per) (count * per) l);
    }
