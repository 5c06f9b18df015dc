use Rattle.std.proofs.Common.{map, vec_items, ap, ◌∙◌}
use Rattle.session.specs.Requests.{call_of}
use Rattle.bench_calls.proofs.Pushed.{is_none, command_more, none_more, all_lines}
use Rattle.bench_calls.proofs.asking.requests_of.Goals as goal
use Rattle.bench_calls.proofs.asking.requests_of.Goals.{in-Some+in_ok-push_calls, in_default}

pub loop-line-preserved : goal.loop-line-preserved
loop-line-preserved c =
    let fills = c.args.fills.now in
    let lines = c.args.lines.now in
    let i = c.loop-line.line-index in
    let old = map call_of (vec_items c.loop-line.requests) in
    elim c.match-line.branch [
      | in-Some+in_ok-push_calls w ↦
          command_more fills lines old _ i c.loop-line-test.true c.loop-line.invariant w.in-Some.command w.in-Some.is
          (ap (λ v. map call_of (vec_items v)) w.requests-is ∙ w.in_ok-push_calls.ensures)
      | in_default w ↦
          none_more fills lines old _ i c.loop-line-test.true c.loop-line.invariant (is_none _ w.in_default.not-Some) (ap (λ v. map call_of (vec_items v)) w.requests-is)
    ]

pub returns : goal.returns
returns c = all_lines c.args.fills.now c.args.lines.now _ c.loop-line.line-index c.loop-line-test.false c.loop-line.invariant
