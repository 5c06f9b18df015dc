-- A buffer that a query has filled, and numbers that are held.
use Rattle.std.proofs.Common.{◌≡◌, ℕ, zero, suc, ◌-◌, ◌<◌, ◌≤◌, true, eqb, List, [], ◌∷◌, reverse, length, get_or, take, replicate, Result, sym, refl, ap, ◌∙◌, arith}
use Rattle.std.proofs.lemmas.List.{length-append, take-append-le, take_all}
use Rattle.std.proofs.lemmas.Bool.{eq-eqb}
use Rattle.std.specs.Result.{result_unwrap_or}
use Rattle.keeping.proofs.Lists.{any_reverse}
use Rattle.readings.specs.Versions.{has}
use Rattle.refusals.specs.declared.types.Refusal.{Refusal}
use Rattle.rules.specs.Calls.{granted, filled}
use Rattle.rules.specs.Told.{told, size_value}
use Rattle.mount_report.proofs.Granted.{value_granted, buffer_granted}

-- A query filled the buffer with xs, and answered n.
module _ (room : ℕ) (xs buffer : List ℕ) (res : Result ℕ Refusal) (n : ℕ) (is : n ≡ result_unwrap_or res 0) (says : told size_value buffer res ≡ granted (length xs ∷ []) (filled room xs)) where
  size_is : n ≡ length xs
  size_is = is ∙ ap (λ ns. get_or ns 0 0) (value_granted size_value buffer res 0 _ _ says)

  filled_is : buffer ≡ filled room xs
  filled_is = buffer_granted size_value buffer res _ _ says

  pub size_fits_lem : n ≤ length buffer
  size_fits_lem = omega (arith, size_is, ap length filled_is, length-append xs (replicate (room - length xs) 0))

  -- What stands at its front.
  pub front_is : take (n - 0) buffer ≡ xs
  front_is =
      let size = size_is in
      ap (take (n - 0)) filled_is ∙ take-append-le (n - 0) xs (replicate (room - length xs) 0) (omega arith) ∙ take_all (n - 0) xs (omega arith)

has_at : (xs : List ℕ) (k : ℕ) → k < length xs → has (get_or xs k 0) xs ≡ true
has_at [] k h = absurd (omega arith)
has_at (x ∷ xs) zero h = rw (eq-eqb x x refl)
has_at (x ∷ xs) (suc k) h = let t = has_at xs k (omega arith) in grind arith

-- Each of the numbers, in their other order, is held.
pub each_held : (held numbers : List ℕ) → numbers ≡ reverse held → (k : ℕ) → k < length numbers → has (get_or numbers k 0) held ≡ true
each_held held numbers is k h = sym (any_reverse (eqb (get_or numbers k 0)) held) ∙ ap (has (get_or numbers k 0)) (sym is) ∙ has_at numbers k h
