use Rattle.std.proofs.Common.{◌≡◌, ◌++◌, vec_items}
use Rattle.session.specs.Requests.{calls_of}
use Rattle.session.specs.Blanks.{blank_calls}
use Rattle.session.proofs.reserving.blanks_for.Given as goal

abbrev pub invariant-loop-request : goal.invariant-loop-request
invariant-loop-request l =
    blank_calls (vec_items l.blanks) ++ calls_of l.request-iterator.iter.rest.now ≡ calls_of l.requests
