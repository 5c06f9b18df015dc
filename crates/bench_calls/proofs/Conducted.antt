-- A session that ended well, on a chip of 4 blocks of 8 pages.
use Rattle.std.proofs.Common.{◌≡◌, ℕ, ◌/◌, min, List, length, Ok, vec_items, Result, Vec, subst}
use Rattle.std.specs.declared.alloc.Global.{Global}
use Rattle.chip.specs.Pages.{Page}
use Rattle.readings.specs.Mount.{capacity}
use Rattle.line.specs.Law.{Lawful}
use Rattle.session.specs.declared.requests.Request.{Request}
use Rattle.session.specs.declared.requests.Made.{Made}
use Rattle.session.specs.declared.requests.Halt.{Halt}
use Rattle.session.specs.Requests.{events_of}
use Rattle.session.specs.Sessions.{Ended}
use Rattle.bench_calls.specs.Runs.{Ran}

pub ran_well : (label : List ℕ) (requests : List Request) (words : List ℕ) (before after : List Page) (r : Result (Vec Made Global) Halt) (calls : Vec Made Global) →
    length words ≡ 8448 → r ≡ Ok calls → Ended label requests (min 512 (length words / 2112)) 8 before after r → Ran requests (vec_items calls)
ran_well label requests words before after r calls long is e =
    let ran = subst (λ z. Ended label requests (min 512 (length words / 2112)) 8 before after z) is e in
    record {
      conducted = ran.conducted;
      lawful = subst (λ n. Lawful (capacity (min 512 (n / 2112)) 8) (events_of (vec_items calls))) long ran.lawful;
    }
