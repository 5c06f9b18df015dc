-- The store's answers in plain numbers.
use Rattle.std.specs.Prelude.{ℕ, List, ◌≡◌, Ok, Err, Result}
use Rattle.refusals.specs.declared.types.Refusal.{Refusal}
use Rattle.refusals.specs.Numbers.{verdict_of}
use Rattle.rules.specs.Calls.{Call}
use Rattle.rules.specs.Told.{told}
use Rattle.store.specs.Views.{View}
use Rattle.store.specs.Deeds.{Asks}

-- What is granted, or the number of the refusal.
abbrev pub numbered : {T : Type 0} → Result T Refusal → Result T ℕ
numbered (Ok x) = Ok x
numbered (Err f) = Err (verdict_of f).number

-- An answer and a buffer are what a query of the store gives, the answer as a number.
pub record FilledBy {T : Type 0} (c : Call) (v : View) (values : T → List ℕ) (filled : Result T ℕ × List ℕ) : Type 0 where
  pub answer : Result T Refusal
  pub number : filled.0 ≡ numbered answer
  pub asks : Asks c v (told values filled.1 answer)
