-- What the program prints.
use Rattle.std.specs.Prelude.{◌≡◌, ℕ, List, map}
use Rattle.bench_lines.specs.Lines.{commands_in}
use Rattle.bench_lines.specs.Replies.{rows_of}
use Rattle.line.specs.Law.{Lawful}
use Rattle.session.specs.declared.requests.Request.{Request}
use Rattle.session.specs.declared.requests.Made.{Made}
use Rattle.session.specs.Requests.{call_of, events_of}
use Rattle.session.specs.Sessions.{Conducted}
use Rattle.bench_calls.specs.Calls.{calls_in}
use Rattle.bench_calls.specs.Fills.{fills_to}
use Rattle.bench_calls.specs.Replies.{replies_to}

-- The requests were made, and what was answered is lawful on a store of capacity 22.
pub record Ran (requests : List Request) (calls : List Made) : Type 0 where
  pub conducted : Conducted requests (events_of calls)
  pub lawful : Lawful 22 (events_of calls)

-- The rows of the input's lines, with the replies to the calls that they ask for, which are lawful.
pub record Printed (input bytes : List ℕ) : Type 0 where
  pub requests : List Request
  pub calls : List Made
  pub asked : map call_of requests ≡ calls_in (fills_to 256) (commands_in input)
  pub ran : Ran requests calls
  pub rows : bytes ≡ rows_of (commands_in input) (replies_to calls)
