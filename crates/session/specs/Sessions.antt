-- What a session leaves.
use Rattle.std.specs.Prelude.{◌≡◌, ℕ, true, false, List, [], ◌∷◌, ◌++◌, map, Ok, Err, vec_items, Result, Vec}
use Rattle.std.specs.declared.alloc.Global.{Global}
use Rattle.chip.specs.Pages.{Page}
use Rattle.readings.specs.Mount.{capacity}
use Rattle.rules.specs.Calls.{Call, keep_slip, Answer}
use Rattle.rules.specs.Told.{refused_by}
use Rattle.line.specs.Line.{Event}
use Rattle.line.specs.Law.{Lawful}
use Rattle.store.specs.Views.{View, is_open}
use Rattle.store.specs.Deeds.{format_answer}
use Rattle.history.specs.History.{History}
use Rattle.refusals.specs.declared.types.Refusal.{Refusal}
use Rattle.session.specs.declared.requests.Halt.{Halt}
use Rattle.session.specs.declared.requests.Halt.TheVariants.{NoMemory, Refused}
use Rattle.session.specs.declared.requests.Request.{Request}
use Rattle.session.specs.declared.requests.Made.{Made}
use Rattle.session.specs.Requests.{calls_of, events_of}
use Rattle.session.specs.Slips.{slips_after, can_call}

-- The events are the calls in their order, both latest first, but that a keep or back whose slip is not in hand is left out.
pub data Followed : List Call → List Event → Type 0 where
  start : Followed [] []
  called : {cs : List Call} {es : List Event} (c : Call) (a : Answer) → can_call c (slips_after es) ≡ true → Followed cs es → Followed (c ∷ cs) (record { call = c; answer = a } ∷ es)
  left_out : {cs : List Call} {es : List Event} (c : Call) → can_call c (slips_after es) ≡ false → Followed cs es → Followed (c ∷ cs) es

-- The requests were made in their order, and then keeps for the slips that were left over.
pub record Conducted (requests : List Request) (es : List Event) : Type 0 where
  -- their numbers, latest first
  pub late : List ℕ
  pub followed : Followed (map keep_slip late ++ calls_of requests) es
  pub none_left : slips_after es ≡ []

-- The events lead from a format with this label to a store on these pages, and their answers are lawful.
pub record Ran (label : List ℕ) (requests : List Request) (es : List Event) (blocks per : ℕ) (pages : List Page) : Type 0 where
  pub final : View
  pub history : History label es final
  pub blocks_are : final.blocks ≡ blocks
  pub per_is : final.per ≡ per
  pub pages_are : final.pages ≡ pages
  pub conducted : Conducted requests es
  pub lawful : Lawful (capacity blocks per) es

-- Why a closed store on such a chip can't be formatted with this label.
abbrev pub Unformatted : List ℕ → ℕ → ℕ → Refusal → Type 0
Unformatted label blocks per f =
    (v : View) → is_open v ≡ false → v.blocks ≡ blocks → v.per ≡ per → refused_by f [] ≡ format_answer label v

-- How a session ended, by the pages before it and after it. Without memory or a format it changes nothing.
abbrev pub Ended : List ℕ → List Request → ℕ → ℕ → List Page → List Page → Result (Vec Made Global) Halt → Type 0
Ended label requests blocks per before after (Ok made) = Ran label requests (events_of (vec_items made)) blocks per after
Ended label requests blocks per before after (Err NoMemory) = after ≡ before
Ended label requests blocks per before after (Err (Refused f)) = Unformatted label blocks per f × (after ≡ before)
