-- Laws of keep, any and first.
use Rattle.std.proofs.Common.{◌≡◌, ℕ, Bool, true, false, ◌&&◌, List, [], ◌∷◌, refl, ◌∙◌, inl, inr, arith}
use mathlib.Core.Option.{some}
use Rattle.std.specs.List.{AllByRecursion}
use Rattle.std.proofs.lemmas.Bool.Decides.{nat_tests}
use Rattle.readings.specs.Versions.{put, keep, any, choose, first, has}
use Rattle.readings.specs.Sorted.{In}

pub first_keep : {A : Type 0} (p q : A → Bool) (l : List A) → ((x : A) → first q l ≡ some x → p x ≡ true) → first q (keep p l) ≡ first q l
unfolding first keep
first_keep p q [] agree = refl
first_keep p q (x ∷ xs) agree = go (p x) (q x) refl refl (first_keep p q xs)
  where
    go : (b c : Bool) → p x ≡ b → q x ≡ c → (((y : _) → first q xs ≡ some y → p y ≡ true) → first q (keep p xs) ≡ first q xs) → first q (put (p x) x (keep p xs)) ≡ choose (q x) x (first q xs)
    go true true e f ih = rw (e, f)
    go true false e f ih = rw e (rw f (ih (λ y h. agree y (rw f h))))
    go false true e f ih = grind (arith, agree x)
    go false false e f ih = rw e (rw f (ih (λ y h. agree y (rw f h))))

pub keep_ext : {A : Type 0} (p q : A → Bool) (l : List A) → AllByRecursion (λ x. p x ≡ q x) l → keep p l ≡ keep q l
unfolding keep
keep_ext p q [] h = refl
keep_ext p q (x ∷ xs) h = rw (h.0, keep_ext p q xs h.1)

pub first_ext : {A : Type 0} (p q : A → Bool) (l : List A) → AllByRecursion (λ x. p x ≡ q x) l → first p l ≡ first q l
unfolding first
first_ext p q [] h = refl
first_ext p q (x ∷ xs) h = rw (h.0, first_ext p q xs h.1)

-- a filter after a filter
pub keep_keep : {A : Type 0} (p q : A → Bool) (l : List A) → keep p (keep q l) ≡ keep (λ x. q x && p x) l
unfolding keep
keep_keep p q [] = refl
keep_keep p q (x ∷ xs) = let ih = keep_keep p q xs in grind arith

pub first_of_keep : {A : Type 0} (p q : A → Bool) (l : List A) → first p (keep q l) ≡ first (λ x. q x && p x) l
unfolding keep first
first_of_keep p q [] = refl
first_of_keep p q (x ∷ xs) = let ih = first_of_keep p q xs in grind arith

pub all_of : {A : Type 0} (P : A → Type 0) (l : List A) → ((x : A) → P x) → AllByRecursion P l
all_of P [] h = tt
all_of P (x ∷ xs) h = (h x, all_of P xs h)

pub first_passes : {A : Type 0} (q : A → Bool) (l : List A) (x : A) → first q l ≡ some x → q x ≡ true
unfolding first
first_passes q [] x h = grind arith
first_passes q (y ∷ ys) x h = let ih = first_passes q ys x in grind arith

pub any_ext : {A : Type 0} (p q : A → Bool) (l : List A) → AllByRecursion (λ x. p x ≡ q x) l → any p l ≡ any q l
any_ext p q [] h = refl
any_ext p q (x ∷ xs) h = rw (h.0, any_ext p q xs h.1)

pub all_in : {A : Type 0} (P : A → Type 0) (l : List A) → ((v : A) → In v l → P v) → AllByRecursion P l
all_in P [] h = tt
all_in P (v ∷ vs) h = (h v (inl refl), all_in P vs (λ w i. h w (inr i)))

pub first_in : {A : Type 0} (q : A → Bool) (l : List A) (x : A) → first q l ≡ some x → In x l
unfolding first
first_in q [] x h = let z : ◌≡◌ {A = ℕ} 0 1 = cc in absurd (omega arith)
first_in q (y ∷ ys) x h = go (q y) h (first_in q ys x)
  where
    go : (b : Bool) → choose b y (first q ys) ≡ some x → (first q ys ≡ some x → In x ys) → In x (y ∷ ys)
    go true e ih = inl (cc)
    go false e ih = inr (ih e)

pub keep_all : {A : Type 0} (l : List A) → keep (λ x. true) l ≡ l
unfolding keep
keep_all [] = refl
keep_all (x ∷ xs) = rw (keep_all xs)

pub has_keep : (h : ℕ → Bool) (l : List ℕ) (n : ℕ) → has n (keep h l) ≡ (has n l && h n)
unfolding keep
has_keep h [] n = refl
has_keep h (x ∷ xs) n = let ih = has_keep h xs n in grind (arith, nat_tests)

pub keep_id : {A : Type 0} (p : A → Bool) (l : List A) → AllByRecursion (λ x. p x ≡ true) l → keep p l ≡ l
keep_id p l h = keep_ext p (λ x. true) l h ∙ keep_all l
