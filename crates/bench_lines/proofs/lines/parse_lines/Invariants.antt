use Rattle.std.proofs.Common.{◌≡◌, ◌++◌, vec_items}
use Rattle.std.specs.Slice.Iter.{split_inclusive_rest}
use Rattle.bench_lines.specs.Lines.{commands_in}
use Rattle.bench_lines.proofs.lines.parse_lines.Given as goal

abbrev pub invariant-loop-line : goal.invariant-loop-line
invariant-loop-line l =
    (goal.iterator-loop-line).can_next l.line-iterator × (goal.iterator-loop-line).is_finite l.line-iterator
    × (vec_items l.commands ++ commands_in (split_inclusive_rest l.line-iterator) ≡ commands_in l.input)
