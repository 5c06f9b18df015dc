use Rattle.std.proofs.Common.{refl}
use Rattle.calls.proofs.Begun.{two_blocks, few_pages, granted_verdict, begun}
use Rattle.calls.proofs.opening.format.Goals as goal

pub returns-clause-begins : goal.returns-clause-begins
returns-clause-begins g c =
    let blocks = g.C.Chip.blocks c.args.chip.now in
    let per = g.C.Chip.per in
    let size = c.in_ok-check_size.ensures in
    let label = c.in_ok-label.ensures in
    let made = c.in_ok-format_chip.ensures.formats (two_blocks blocks per size) (few_pages blocks per size) in
    record {
      verdict = granted_verdict _ blocks per size label.1;
      refusal = λ no. absurd (no refl);
      begun = begun _ _ _ _ _ _ label.0 made.0 made.1;
    }
