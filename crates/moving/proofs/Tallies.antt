-- Counting pages by their numbers, and what stands among the sayings.
use Rattle.std.proofs.Common.{◌≡◌, ℕ, zero, suc, ◌+◌, ◌-◌, ◌<◌, ◌≤◌, Bool, true, false, cond, List, [], ◌∷◌, length, get_or, sym, refl, ap, ◌∙◌, subst, inl, inr, add-one, arith}
use Rattle.std.specs.List.{range_with_len}
use Rattle.std.proofs.lemmas.List.FromFn.{length-range_with_len, get_or-range_with_len}
use Rattle.std.proofs.lemmas.List.Sums.{get_or-le-sum_by, sum_by-cons}
use Rattle.chip.specs.Pages.{Page}
use Rattle.readings.specs.Versions.{put, keep}
use Rattle.readings.specs.Sorted.{In}
use Rattle.readings.specs.Sayings.{Saying, said, sayings}
use Rattle.moving.specs.Kept.{tally}
use Rattle.moving.specs.Moves.{Outside}

tally_cons : (p : ℕ → Bool) (from n : ℕ) → tally p from (suc n) ≡ cond (p from) 1 0 + tally p (from + 1) n
tally_cons p from n = sum_by-cons (λ x. cond (p x) 1 0) from (range_with_len (from + 1) n)

-- A tally of 0 says that none passes.
pub tally_zero : (p : ℕ → Bool) (from n : ℕ) → tally p from n ≡ 0 → (i : ℕ) → i < n → p (from + i) ≡ false
tally_zero p from n e i h =
    let l = get_or-le-sum_by (λ x. cond (p x) 1 0) (range_with_len from n) i 0 (rw (length-range_with_len from n) h) in
    let a = get_or-range_with_len from n i 0 h in
    go (p (from + i)) (rw a at l) e
  where
    go : (b : Bool) → cond b 1 0 ≤ tally p from n → tally p from n ≡ 0 → b ≡ false
    go true l e = absurd (omega arith)
    go false l e = refl

-- Any other says that one does.
pub tally_some : (p : ℕ → Bool) (from n : ℕ) → 0 < tally p from n → (i : ℕ) × (i < n) × (p (from + i) ≡ true)
tally_some p from zero h = absurd (omega arith)
tally_some p from (suc n) h = go (p from) refl (rw tally_cons at h) (tally_some p (from + 1) n)
  where
    go : (b : Bool) → p from ≡ b → 0 < cond b 1 0 + tally p (from + 1) n → (0 < tally p (from + 1) n → (i : ℕ) × (i < n) × (p (from + 1 + i) ≡ true)) →
        (i : ℕ) × (i < suc n) × (p (from + i) ≡ true)
    go true f z ih = (0, omega arith, let e : from + 0 ≡ from = omega arith in ap p e ∙ f)
    go false f z ih = let r = ih (omega arith) in (r.0 + 1, let l = r.1 in omega arith, let e : from + (r.0 + 1) ≡ from + 1 + r.0 = omega arith in ap p e ∙ r.2)

pub tally_ext : (p q : ℕ → Bool) (from n : ℕ) → ((k : ℕ) → from ≤ k → k < from + n → p k ≡ q k) → tally p from n ≡ tally q from n
tally_ext p q from zero h = refl
tally_ext p q from (suc n) h =
    tally_cons p from n ∙ rw (h from (omega arith) (omega arith), tally_ext p q (from + 1) n (λ k a b. h k (omega arith) (omega arith))) (sym (tally_cons q from n))

pub tally_nil : (p : ℕ → Bool) (from n : ℕ) → ((k : ℕ) → from ≤ k → k < from + n → p k ≡ false) → tally p from n ≡ 0
tally_nil p from zero h = refl
tally_nil p from (suc n) h = tally_cons p from n ∙ rw (h from (omega arith) (omega arith), tally_nil p (from + 1) n (λ k a b. h k (omega arith) (omega arith))) refl

pub tally_all : (p : ℕ → Bool) (from n : ℕ) → ((k : ℕ) → from ≤ k → k < from + n → p k ≡ true) → tally p from n ≡ n
tally_all p from zero h = refl
tally_all p from (suc n) h = tally_cons p from n ∙ rw (h from (omega arith) (omega arith), tally_all p (from + 1) n (λ k a b. h k (omega arith) (omega arith))) (omega arith)

tally_split : (p : ℕ → Bool) (from a b : ℕ) → tally p from (a + b) ≡ tally p from a + tally p (from + a) b
tally_split p from zero b =
    let e : from + 0 ≡ from = omega arith in
    let f : 0 + b ≡ b = omega arith in
    rw (e, f) (omega arith)
tally_split p from (suc a) b =
    let e : suc a + b ≡ suc (a + b) = omega arith in
    let f : from + suc a ≡ from + 1 + a = omega arith in
    let ih = tally_split p (from + 1) a b in
    let x = tally_cons p from (a + b) in
    let y = tally_cons p from a in
    rw (e, f) (omega arith)

-- Before a part, in it and behind it.
pub tally_parts : (p : ℕ → Bool) (n low per : ℕ) → low + per ≤ n → tally p 0 n ≡ tally p 0 low + tally p low per + tally p (low + per) (n - (low + per))
tally_parts p n low per h =
    let a : tally p 0 (low + per) ≡ tally p 0 low + tally p (0 + low) per = tally_split p 0 low per in
    let b : tally p 0 (low + per + (n - (low + per))) ≡ tally p 0 (low + per) + tally p (0 + (low + per)) (n - (low + per)) = tally_split p 0 (low + per) (n - (low + per)) in
    let x : 0 + low ≡ low = omega arith in
    let y : 0 + (low + per) ≡ low + per = omega arith in
    let z : low + per + (n - (low + per)) ≡ n = omega arith in
    let a' = subst (λ k. tally p 0 (low + per) ≡ tally p 0 low + tally p k per) x a in
    let b' = subst (λ k. tally p 0 n ≡ tally p 0 (low + per) + tally p k (n - (low + per))) y (subst (λ k. tally p 0 k ≡ tally p 0 (low + per) + tally p (0 + (low + per)) (n - (low + per))) z b) in
    omega arith

-- A part is lost, and the rest stays.
pub tally_lost : (p q : ℕ → Bool) (n low per : ℕ) → low + per ≤ n → ((k : ℕ) → k < n → Outside low per k → p k ≡ q k) → ((i : ℕ) → i < per → q (low + i) ≡ false) →
    tally p 0 n ≡ tally q 0 n + tally p low per
tally_lost p q n low per h same gone =
    let a = tally_parts p n low per h in
    let b = tally_parts q n low per h in
    let x : tally p 0 low ≡ tally q 0 low = tally_ext p q 0 low (λ k _ l. same k (omega arith) (inl (omega arith))) in
    let y : tally p (low + per) (n - (low + per)) ≡ tally q (low + per) (n - (low + per)) = tally_ext p q (low + per) (n - (low + per)) (λ k l m. same k (omega arith) (inr l)) in
    let z : tally q low per ≡ 0 = tally_nil q low per (λ k l m. let e : low + (k - low) ≡ k = omega arith in ap q (sym e) ∙ gone (k - low) (omega arith)) in
    omega arith

-- Counting a list by its places.
tally_next : (p : ℕ → Bool) (from n : ℕ) → tally p (from + 1) n ≡ tally (λ k. p (k + 1)) from n
tally_next p from zero = refl
tally_next p from (suc n) = tally_cons p (from + 1) n ∙ ap (λ m. cond (p (from + 1)) 1 0 + m) (tally_next p (from + 1) n) ∙ sym (tally_cons (λ k. p (k + 1)) from n)

pub count_said : (p : Saying → Bool) (pages : List Page) → length (keep p (sayings pages)) ≡ tally (λ k. p (said (get_or pages k []))) 0 (length pages)
unfolding keep
count_said p [] = refl
count_said p (x ∷ xs) =
    go (p (said x)) (count_said p xs
    ∙ sym (tally_next (λ k. p (said (get_or (x ∷ xs) k []))) 0 (length xs) ∙ tally_ext _ (λ k. p (said (get_or xs k []))) 0 (length xs) (λ k _ _. ap (λ j. p (said (get_or (x ∷ xs) j []))) (add-one k))))
    ∙ sym (tally_cons (λ k. p (said (get_or (x ∷ xs) k []))) 0 (length xs))
  where
    go : {n : ℕ} (b : Bool) → length (keep p (sayings xs)) ≡ n → length (put b (said x) (keep p (sayings xs))) ≡ cond b 1 0 + n
    go true e = omega arith
    go false e = e ∙ omega arith

-- What a page says stands among the sayings, and what stands there is said by a page.
pub at_in : (pages : List Page) (k : ℕ) → k < length pages → In (said (get_or pages k [])) (sayings pages)
at_in [] k h = absurd (omega arith)
at_in (p ∷ ps) zero h = inl refl
at_in (p ∷ ps) (suc k) h = inr (at_in ps k (omega arith))

pub in_at : (pages : List Page) (x : Saying) → In x (sayings pages) → (k : ℕ) × (k < length pages) × (said (get_or pages k []) ≡ x)
in_at [] x i = absurd i
in_at (p ∷ ps) x (inl e) = (0, omega arith, sym e)
in_at (p ∷ ps) x (inr i) = let r = in_at ps x i in (suc r.0, let l = r.1 in omega arith, r.2)
