use Rattle.std.proofs.Common.{◌≡◌, ◌++◌, map, drop, vec_items}
use Rattle.session.specs.Requests.{call_of}
use Rattle.bench_calls.specs.Calls.{calls_in}
use Rattle.bench_calls.proofs.asking.requests_of.Given as goal

abbrev pub invariant-loop-line : goal.invariant-loop-line
invariant-loop-line l = map call_of (vec_items l.requests) ++ calls_in l.fills (drop l.line-index l.lines) ≡ calls_in l.fills l.lines
