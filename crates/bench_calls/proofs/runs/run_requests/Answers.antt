use Rattle.std.proofs.Common.{length, ap, ◌∙◌}
use Rattle.bench_calls.proofs.Conducted.{ran_well}
use Rattle.bench_calls.proofs.runs.run_requests.Goals as goal

pub returns : goal.returns
returns c =
    ran_well _ _ c.new-chip.result.image.now _ _ c.run_session-outcome.result.1 c.in_ok-outcome.field-0
    (ap length c.new-chip.ensures.image ∙ c.as_mut_slice.ensures.len ∙ c.in_ok-words.ensures.len) c.in_ok-outcome.was c.run_session-outcome.ensures.ended
