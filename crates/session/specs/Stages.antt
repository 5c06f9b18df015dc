-- A session under way.
use Rattle.std.specs.Prelude.{◌≡◌, ℕ, true, List, ◌++◌}
use Rattle.rules.specs.Calls.{Call}
use Rattle.line.specs.Line.{Event}
use Rattle.store.specs.Views.{View, is_open, Sound}
use Rattle.history.specs.History.{History}
use Rattle.session.specs.Slips.{slips_after}
use Rattle.session.specs.Sessions.{Followed}

-- Since a format with this label, on a chip of so many blocks, the calls cs were followed by the events es, which led to the store v with the slips ns in hand.
pub record Stage (label : List ℕ) (blocks : ℕ) (cs : List Call) (es : List Event) (v : View) (ns : List ℕ) : Type 0 where
  pub history : History label es v
  pub followed : Followed cs es
  pub slips : ns ≡ slips_after es
  pub sound : is_open v ≡ true → Sound v
  pub blocks_are : v.blocks ≡ blocks

-- Whatever led to es, v and ns: the calls `more` led on to fs, w and ms.
abbrev pub Goes : List Call → List Event → View → List ℕ → List Event → View → List ℕ → Type 0
Goes more es v ns fs w ms =
    (label : List ℕ) (blocks : ℕ) (cs : List Call) → Stage label blocks cs es v ns → Stage label blocks (more ++ cs) fs w ms
