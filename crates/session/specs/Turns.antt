-- One request: v and ns are the store and the slips in hand before it, w and ms those after it.
use Rattle.std.specs.Prelude.{◌≡◌, ℕ, true, false, List, Some, None, Option, Result}
use Rattle.rules.specs.Calls.{Call, Answer}
use Rattle.store.specs.Views.{View}
use Rattle.store.specs.Deeds.{Does}
use Rattle.refusals.specs.declared.types.Refusal.{Refusal}
use Rattle.rules.specs.Told.{told}
use Rattle.session.specs.declared.requests.Value.{Value}
use Rattle.session.specs.Requests.{values_of}
use Rattle.session.specs.Slips.{slips_by, can_call}

-- The call was made.
pub record Called (c : Call) (v : View) (ns : List ℕ) (a : Answer) (w : View) (ms : List ℕ) : Type 0 where
  pub in_hand : can_call c ns ≡ true
  pub does : Does c v a w
  pub slips : ms ≡ slips_by c a ns

-- It was left out, for want of its slip.
pub record LeftOut (c : Call) (v : View) (ns : List ℕ) (w : View) (ms : List ℕ) : Type 0 where
  pub not_in_hand : can_call c ns ≡ false
  pub store : w ≡ v
  pub slips : ms ≡ ns

abbrev pub Turn : Call → View → List ℕ → List ℕ → Option (Result Value Refusal) → View → List ℕ → Type 0
Turn c v ns buffer (Some outcome) w ms = Called c v ns (told values_of buffer outcome) w ms
Turn c v ns buffer None w ms = LeftOut c v ns w ms
