-- Held numbers of an open store.
use Rattle.std.proofs.Common.{◌≡◌, ℕ, suc, ltb, leb, List, [], ◌∷◌, sym, refl, ap, ◌∙◌, ⊎_elim, arith}
use Rattle.std.proofs.lemmas.Bool.{lt-ltb, le-ltb, le-leb, lt-leb, cases_lt}
use Rattle.readings.specs.Versions.{keep}

-- Below the next number is up to the number.
next_leb : (m n : ℕ) → ltb m (suc n) ≡ leb m n
next_leb m n = ⊎_elim (λ h. lt-ltb m (suc n) (omega arith) ∙ sym (le-leb m n (omega arith))) (λ h. le-ltb m (suc n) h ∙ sym (lt-leb m n h)) (cases_lt m (suc n))

pub below_next : (bound n : ℕ) → bound ≡ suc n → (ns : List ℕ) → keep (λ m. ltb m bound) ns ≡ keep (λ m. leb m n) ns
unfolding keep
below_next bound n e [] = refl
below_next bound n e (m ∷ ms) = rw (below_next bound n e ms, e, next_leb m n) refl

pub below_same : (bound n : ℕ) → bound ≡ n → (ns : List ℕ) → keep (λ m. ltb m bound) ns ≡ keep (λ m. ltb m n) ns
below_same bound n e ns = ap (λ b. keep (λ m. ltb m b) ns) e
