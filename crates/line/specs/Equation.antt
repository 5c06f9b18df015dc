-- What a revert leaves, as an equation on sets of versions: (S ∪ Domain(U)) − Range(U).
-- S is the present state before it. U leads from each version that was replaced since the state, or from nothing, to the version that replaced it.
use Rattle.std.specs.Prelude.{◌≡◌, ℕ, ◌<◌, true, ◌&&◌, ◌⊎◌, ◌↔◌, List, [], ◌∷◌, ◌==◌, nat_lt}
use Rattle.std.proofs.Math.Option.{Option, some}
use Rattle.readings.specs.Versions.{Version, first, has, Reading}
use Rattle.readings.specs.Sorted.{In}
use Rattle.rules.specs.Calls.{}
use Rattle.readings.specs.Changes.{reverted, backed, present, in_state}
use Rattle.line.specs.Line.{Event}
use Rattle.line.specs.Runs.{State, Run}

-- S: v is the present version of its sector. It may be a deletion.
abbrev pub Present : Reading → Version → Type 0
Present r v = present r v.sector ≡ some v

-- v is its sector's version in the state of n.
abbrev pub InState : ℕ → Reading → Version → Type 0
InState n r v = in_state r n v.sector ≡ some v

-- What w replaced: the next older version of its sector, or nothing.
abbrev pub former : Reading → Version → Option Version
former r w = first (λ v. (v.sector == w.sector) && nat_lt v.birth w.birth) r.versions

abbrev pub Replaces : Reading → Option Version → Version → Type 0
Replaces r o w = In w r.versions × (former r w ≡ o)

-- U: w replaced o, and was born after n.
pub record U (n : ℕ) (r : Reading) (o : Option Version) (w : Version) : Type 0 where
  pub replaces : Replaces r o w
  pub born_since : n < w.birth

abbrev pub Domain : ℕ → Reading → Version → Type 0
Domain n r v = (w : Version) × U n r (some v) w

abbrev pub Range : ℕ → Reading → Version → Type 0
Range n r w = (o : Option Version) × U n r o w

-- The equation for v: it is present after going back to n, which leaves the reading r'.
abbrev pub PresentAfter : ℕ → Reading → Reading → Version → Type 0
PresentAfter n r r' v = Present r' v ↔ ((Present r v ⊎ Domain n r v) × (Range n r v → ⊥))

pub record Equation (n : ℕ) (r : Reading) : Type 0 where
  pub after_revert : (v : Version) → PresentAfter n r (reverted n r) v
  pub after_back : (v : Version) → PresentAfter n r (backed n r) v
  -- Range(U) is all versions born since.
  pub range_is_born_since : (v : Version) → Range n r v ↔ (In v r.versions × (n < v.birth))
  -- What the state of n keeps beyond the present one is what it has in Domain(U).
  pub kept_beyond_present : (v : Version) → (InState n r v × (Present r v → ⊥)) ↔ (InState n r v × Domain n r v)

-- Births fall, so that no two are the same.
abbrev pub Falling : List Version → Type 0
Falling [] = Unit {0}
Falling (v ∷ vs) = ((w : Version) → In w vs → w.birth < v.birth) × Falling vs

-- On any reading whose births fall, and so on the reading that any run leaves, at each number that it holds.
pub record RevertEquation : Type 0 where
  pub on_readings : (r : Reading) → Falling r.versions → (n : ℕ) → has n r.held ≡ true → Equation n r
  pub on_runs : (cap : ℕ) (label : List ℕ) (es : List Event) (t : State) → Run cap label es t → (n : ℕ) → has n t.reading.held ≡ true → Equation n t.reading
