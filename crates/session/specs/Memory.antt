-- The memory of a session before its first call.
use Rattle.std.specs.Prelude.{◌≡◌, List, [], vec_items}
use Rattle.session.specs.declared.requests.Request.{Request}
use Rattle.session.specs.declared.memory.Memory.{Memory}
use Rattle.session.specs.Requests.{calls_of}
use Rattle.session.specs.Blanks.{blank_calls}

-- A blank for each request, the last first. (That there is room is in the type.)
pub record Enough (requests : List Request) (m : Memory) : Type 0 where
  pub blanks : blank_calls (vec_items m.blanks) ≡ calls_of requests
  pub none_done : vec_items m.done ≡ []
  pub none_in_hand : vec_items m.slips ≡ []
