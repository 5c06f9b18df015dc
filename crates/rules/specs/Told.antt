-- What the code of a call returns, as number and values.
use Rattle.std.specs.Prelude.{ℕ, List, [], ◌∷◌, Some, None, Ok, Err, Option, Result}
use Rattle.refusals.specs.declared.types.Refusal.{Refusal}
use Rattle.refusals.specs.Numbers.{verdict_of}
use Rattle.rules.specs.declared.types.Count.{Count}
use Rattle.rules.specs.declared.types.Holding.{Holding}
use Rattle.rules.specs.declared.types.Holding.TheVariants.{Data, Empty}
use Rattle.rules.specs.declared.types.Tick.{Tick}
use Rattle.rules.specs.Calls.{Answer, granted}

-- A refusal; the buffer is as it is afterwards.
abbrev pub refused_by : Refusal → List ℕ → Answer
refused_by f buffer = record { number = (verdict_of f).number; values = (verdict_of f).values; buffer = buffer }

abbrev pub told : {A : Type 0} → (A → List ℕ) → List ℕ → Result A Refusal → Answer
told values buffer (Ok x) = granted (values x) buffer
told values buffer (Err f) = refused_by f buffer

-- The values of each kind of answer.
abbrev pub tick_value : Tick → List ℕ
tick_value t = t.0 ∷ []

-- 1 for data, 0 for an empty sector.
abbrev pub holding_value : Holding → List ℕ
holding_value Data = 1 ∷ []
holding_value Empty = 0 ∷ []

-- A tick, or no value for nothing.
abbrev pub since_value : Option Tick → List ℕ
since_value None = []
since_value (Some t) = t.0 ∷ []

abbrev pub count_value : Count → List ℕ
count_value c = c.needed ∷ c.capacity ∷ []

abbrev pub size_value : ℕ → List ℕ
size_value n = n ∷ []

abbrev pub no_value : Unit {0} → List ℕ
no_value u = []
