use Rattle.std.proofs.Common.{◌∷◌, string_bytes, sym, ap, ◌∙◌, arith}
use Rattle.std.specs.Slice.Iter.{iter_rest}
use Rattle.bench_lines.specs.Replies.{rows_of}
use Rattle.bench_lines.proofs.Printed.{unknown_more, row_more, row_none, rows_all}
use Rattle.bench_lines.proofs.replies.rows.Goals as goal
use Rattle.bench_lines.proofs.replies.rows.Goals.{in-None+in_ok-push_str-in-None, in-Some+in-Some-next+in_ok-push_row-in-Some}

pub returns-in_default : goal.returns-in_default
returns-in_default c =
    row_none c.args.lines.now c.loop-line.line-index c.loop-line-test.true (string_bytes c.loop-line.text) (iter_rest c.loop-line.replies) c.in-Some.is c.in_default.ensures.steps.0 c.loop-line.invariant ∙ ap (rows_of c.args.lines.now) c.iter-replies.ensures.rest

pub loop-line-smaller : goal.loop-line-smaller
loop-line-smaller c = omega arith

pub loop-line-preserved : goal.loop-line-preserved
loop-line-preserved c =
    let lines = c.args.lines.now in
    let i = c.loop-line.line-index in
    let h = c.loop-line-test.true in
    let text = string_bytes c.loop-line.text in
    let replies = iter_rest c.loop-line.replies in
    let left = iter_rest c.match-line.replies in
    elim c.match-line.branch [
      | in-None+in_ok-push_str-in-None w ↦ unknown_more lines i h text replies left w.in-None.is (ap iter_rest w.replies-is) (ap string_bytes w.text-is ∙ w.in_ok-push_str-in-None.ensures.bytes) c.loop-line.invariant
      | in-Some+in-Some-next+in_ok-push_row-in-Some w ↦
          let reply = w.in-Some-next.reply.now in
          let next = w.in-Some-next.ensures.steps ∙ ap (λ r. reply ∷ iter_rest r) (sym w.replies-is) in
          row_more lines i h text replies left w.in-Some.command reply w.in-Some.is next (ap string_bytes w.text-is ∙ w.in_ok-push_row-in-Some.ensures) c.loop-line.invariant
    ]

pub returns : goal.returns
returns c =
    rows_all c.args.lines.now c.loop-line.line-index c.loop-line-test.false (string_bytes c.loop-line.text) (iter_rest c.loop-line.replies) c.loop-line.invariant ∙ ap (rows_of c.args.lines.now) c.iter-replies.ensures.rest
