use Rattle.std.proofs.Common.{◌≡◌, ◌-◌, ◌++◌, length, drop, string_bytes}
use Rattle.std.specs.Slice.Iter.{iter_rest}
use Rattle.bench_lines.specs.Replies.{rows_of}
use Rattle.bench_lines.proofs.replies.rows.Given as goal

abbrev pub invariant-loop-line : goal.invariant-loop-line
invariant-loop-line l =
    string_bytes l.text ++ rows_of (drop l.line-index l.lines) (iter_rest l.replies) ≡ rows_of l.initial.lines (iter_rest l.initial.replies)

abbrev pub decreases-loop-line : goal.decreases-loop-line
decreases-loop-line l = length l.initial.lines - l.line-index
