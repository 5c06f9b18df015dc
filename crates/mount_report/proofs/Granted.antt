-- What the queries of an open store give.
use Rattle.std.proofs.Common.{◌≡◌, ℕ, ◌<◌, true, false, eqb, ltb, List, [], ◌∷◌, reverse, length, Ok, Err, Option, Result, sym, ap, ◌∙◌, arith}
use Rattle.std.proofs.lemmas.List.{length-reverse}
use Rattle.std.proofs.lemmas.Bool.{le-ltb}
use Rattle.std.proofs.Math.Logic.{∥∥₁_elim}
use Rattle.std.proofs.Props.{props}
use Rattle.std.specs.Result.{result_unwrap_or}
use Rattle.readings.specs.Versions.{has}
use Rattle.readings.specs.Changes.{present, in_state}
use Rattle.refusals.specs.Numbers.{verdict_of}
use Rattle.refusals.specs.declared.types.Refusal.{Refusal}
use Rattle.refusals.specs.declared.types.Refusal.TheVariants as refusal
use Rattle.rules.specs.Calls.{Call, since, since_in, count, ask_held, ask_label, Answer, Outcome, granted, born_at, filled, rule}
use Rattle.rules.specs.Told.{told, since_value, count_value, size_value}
use Rattle.rules.specs.declared.types.Count.{Count}
use Rattle.rules.specs.declared.types.Tick.{Tick}
use Rattle.calls.proofs.Exits.{since_granted, since_in_granted, count_granted, held_granted, label_granted}
use Rattle.store.specs.Views.{View, reading_of, capacity_of}
use Rattle.store.specs.Deeds.{Asks}
use Rattle.mount_report.specs.Lines.{Ready}

-- A refusal has a number.
pub some_number : (f : Refusal) → (verdict_of f).number ≡ 0 → ⊥
some_number refusal.StoreOpen e = omega arith
some_number refusal.StoreClosed e = omega arith
some_number refusal.ChipSize e = omega arith
some_number refusal.LabelLength e = omega arith
some_number (refusal.BadPage page cause) e = omega arith
some_number refusal.NotAStore e = omega arith
some_number refusal.NoSuchSector e = omega arith
some_number refusal.BufferLength e = omega arith
some_number refusal.NotHeld e = omega arith
some_number refusal.TooManyHeld e = omega arith
some_number refusal.OutOfTicks e = omega arith
some_number refusal.Full e = omega arith

module _ {T : Type 0} (values : T → List ℕ) (buffer : List ℕ) where
  pub value_granted : (res : Result T Refusal) (d : T) (xs bs : List ℕ) → told values buffer res ≡ granted xs bs → values (result_unwrap_or res d) ≡ xs
  value_granted (Ok x) d xs bs e = ap (λ (a : Answer). a.values) e
  value_granted (Err f) d xs bs e = absurd (some_number f (ap (λ (a : Answer). a.number) e))

  pub buffer_granted : (res : Result T Refusal) (xs bs : List ℕ) → told values buffer res ≡ granted xs bs → buffer ≡ bs
  buffer_granted (Ok x) xs bs e = ap (λ (a : Answer). a.buffer) e
  buffer_granted (Err f) xs bs e = ap (λ (a : Answer). a.buffer) e

-- A query of such a store is answered by its rule.
by_rule : (v : View) (o : ∥ Ready v ∥₁) (c : Call) (a : Answer) → Asks c v a → a ≡ (rule (capacity_of v) c (reading_of v)).answer
by_rule v o c a asks = ∥∥₁_elim o (Prim.hlevel props) (λ r. asks.open? r.opens r.sound)

module _ (v : View) (o : ∥ Ready v ∥₁) (s : ℕ) (h : s < 2048) (res : Result (Option Tick) Refusal) (d x : Option Tick) (is : x ≡ result_unwrap_or res d) where
  below : ltb 2047 s ≡ false
  below = le-ltb 2047 s (omega arith)

  pub since_value_lem : Asks (since s) v (told since_value [] res) → since_value x ≡ born_at (present (reading_of v) s)
  since_value_lem asks =
      ap since_value is ∙ value_granted since_value [] res d _ [] (by_rule v o _ _ asks ∙ ap (λ (z : Outcome). z.answer) (since_granted (capacity_of v) (reading_of v) s below))

  pub since_in_value : (n : ℕ) → has n (reading_of v).held ≡ true → Asks (since_in n s) v (told since_value [] res) → since_value x ≡ born_at (in_state (reading_of v) n s)
  since_in_value n known asks =
      ap since_value is ∙ value_granted since_value [] res d _ [] (by_rule v o _ _ asks ∙ ap (λ (z : Outcome). z.answer) (since_in_granted (capacity_of v) (reading_of v) s n below known))

module _ (v : View) (o : ∥ Ready v ∥₁) where
  pub count_value_lem : (res : Result Count Refusal) (d x : Count) → x ≡ result_unwrap_or res d → Asks count v (told count_value [] res) → count_value x ≡ length (reading_of v).versions ∷ capacity_of v ∷ []
  count_value_lem res d x is asks =
      ap count_value is ∙ value_granted count_value [] res d _ [] (by_rule v o _ _ asks ∙ ap (λ (z : Outcome). z.answer) (count_granted (capacity_of v) (reading_of v)))

  -- How many, and the buffer afterwards.
  module _ (old new : List ℕ) (res : Result ℕ Refusal) where
    pub held_filled : eqb (length old) 8 ≡ true → Asks (ask_held old) v (told size_value new res) → told size_value new res ≡ granted (length (reverse (reading_of v).held) ∷ []) (filled 8 (reverse (reading_of v).held))
    held_filled room asks =
        by_rule v o _ _ asks
        ∙ ap (λ (z : Outcome). z.answer) (held_granted (capacity_of v) (reading_of v) old room)
        ∙ ap (λ n. granted (n ∷ []) (filled 8 (reverse (reading_of v).held))) (sym (length-reverse (reading_of v).held))

    pub label_filled : eqb (length old) 32 ≡ true → Asks (ask_label old) v (told size_value new res) → told size_value new res ≡ granted (length (reading_of v).label ∷ []) (filled 32 (reading_of v).label)
    label_filled room asks =
        by_rule v o _ _ asks ∙ ap (λ (z : Outcome). z.answer) (label_granted (capacity_of v) (reading_of v) old room)
