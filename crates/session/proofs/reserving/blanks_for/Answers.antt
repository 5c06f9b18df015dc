use Rattle.session.proofs.Staged.{blanks_more}
use Rattle.session.proofs.reserving.blanks_for.Goals as goal

pub loop-request-preserved : goal.loop-request-preserved
loop-request-preserved c =
    blanks_more _ _ c.in-Some.request.now c.in_ok-blank.blank _ _ _ c.in-Some.ensures.steps c.in_ok-blank.ensures c.in_ok-push.ensures.items c.loop-request.invariant
