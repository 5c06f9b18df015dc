use Rattle.std.proofs.Common.{◌≡◌, vec_items}
use Rattle.bench_calls.specs.Fills.{fills_to}
use Rattle.bench_calls.proofs.fills.all_fills.Given as goal

abbrev pub invariant-loop-byte : goal.invariant-loop-byte
invariant-loop-byte l = vec_items l.fills ≡ fills_to l.byte
