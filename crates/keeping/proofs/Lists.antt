-- Laws of lists and of what stands in them.
use Rattle.std.proofs.Common.{◌≡◌, ℕ, zero, suc, ◌<◌, ◌≤◌, Bool, true, false, ◌||◌, List, [], ◌∷◌, reverse, length, get_or, sym, refl, ap, ◌∙◌, subst, inl, inr, arith}
use mathlib.Core.List.{reverse_aux}
use Rattle.std.proofs.lemmas.List.{get_or-map, length-map}
use Rattle.std.proofs.lemmas.Bool.{or_cases, or_left, or_right}
use Rattle.chip.specs.Pages.{Page}
use Rattle.readings.specs.Versions.{put, keep, any, Version, needed}
use Rattle.readings.specs.Sorted.{In}
use Rattle.readings.specs.Sayings.{Saying, nothing, said, sayings}

-- Where an element stands.
pub at_in : {A : Type 0} (xs : List A) (d x : A) → In x xs → (k : ℕ) × (k < length xs) × (get_or xs k d ≡ x)
at_in [] d x h = absurd h
at_in (y ∷ ys) d x (inl e) = (0, omega arith, sym e)
at_in (y ∷ ys) d x (inr h) = let r = at_in ys d x h in (suc r.0, let q = r.1 in omega arith, r.2)

pub in_at : {A : Type 0} (xs : List A) (k : ℕ) (d : A) → k < length xs → In (get_or xs k d) xs
in_at [] k d h = absurd (omega arith)
in_at (x ∷ xs) zero d h = inl refl
in_at (x ∷ xs) (suc k) d h = inr (in_at xs k d (omega arith))

pub says_at : (pages : List Page) (x : Saying) → In x (sayings pages) → (k : ℕ) × (k < length pages) × (said (get_or pages k []) ≡ x)
says_at pages x h =
    let r = at_in (sayings pages) nothing x h in
    let l : r.0 < length pages = let q = r.1 in let e = length-map pages said in omega arith in
    (r.0, l, sym (get_or-map said pages r.0 [] nothing l) ∙ r.2)

pub at_says : (pages : List Page) (x : Saying) (k : ℕ) → k < length pages → said (get_or pages k []) ≡ x → In x (sayings pages)
at_says pages x k l e =
    subst (λ z. In z (sayings pages)) (get_or-map said pages k [] nothing l ∙ e) (in_at (sayings pages) k nothing (let q = length-map pages said in omega arith))

-- A test of some element.
pub any_in : {A : Type 0} (p : A → Bool) (xs : List A) (x : A) → In x xs → p x ≡ true → any p xs ≡ true
any_in p [] x h t = absurd h
any_in p (y ∷ ys) x (inl e) t = or_left (p y) (any p ys) (ap p (sym e) ∙ t)
any_in p (y ∷ ys) x (inr h) t = or_right (p y) (any p ys) (any_in p ys x h t)

pub in_any : {A : Type 0} (p : A → Bool) (xs : List A) → any p xs ≡ true → (x : A) × In x xs × (p x ≡ true)
in_any p [] h = let z : ◌≡◌ {A = ℕ} 0 1 = cc in absurd (omega arith)
in_any p (y ∷ ys) h = elim (or_cases (p y) (any p ys) h) [
  | inl t ↦ (y, inl refl, t)
  | inr t ↦ let r = in_any p ys t in (r.0, inr r.1, r.2)
]

pub keep_short : {A : Type 0} (p : A → Bool) (xs : List A) → length (keep p xs) ≤ length xs
unfolding keep
keep_short p [] = omega arith
keep_short p (x ∷ xs) = go (p x) (keep_short p xs)
  where
    go : (b : Bool) → length (keep p xs) ≤ length xs → length (put b x (keep p xs)) ≤ suc (length xs)
    go true h = omega arith
    go false h = omega arith

-- Reversed lists.
any_onto : {A : Type 0} (p : A → Bool) (xs ys : List A) → any p (reverse_aux xs ys) ≡ (any p xs || any p ys)
any_onto p [] ys = refl
any_onto p (x ∷ xs) ys = any_onto p xs (x ∷ ys) ∙ swap (p x) (any p xs) (any p ys)
  where
    swap : (a b c : Bool) → (b || (a || c)) ≡ ((a || b) || c)
    swap a b c = grind arith

pub any_reverse : {A : Type 0} (p : A → Bool) (xs : List A) → any p (reverse xs) ≡ any p xs
any_reverse p xs = any_onto p xs [] ∙ or_false (any p xs)
  where
    or_false : (a : Bool) → (a || false) ≡ a
    or_false a = grind arith

keep_onto : {A : Type 0} (p : A → Bool) (xs ys : List A) → keep p (reverse_aux xs ys) ≡ reverse_aux (keep p xs) (keep p ys)
unfolding keep
keep_onto p [] ys = refl
keep_onto p (x ∷ xs) ys = keep_onto p xs (x ∷ ys) ∙ go (p x)
  where
    go : (b : Bool) → reverse_aux (keep p xs) (put b x (keep p ys)) ≡ reverse_aux (put b x (keep p xs)) (keep p ys)
    go true = refl
    go false = refl

pub keep_reverse : {A : Type 0} (p : A → Bool) (xs : List A) → keep p (reverse xs) ≡ reverse (keep p xs)
unfolding keep
keep_reverse p xs = keep_onto p xs []

pub needed_reverse : (held : List ℕ) (vs : List Version) (v : Version) → needed (reverse held) vs v ≡ needed held vs v
unfolding needed
needed_reverse held vs v = rw (any_reverse _ held) refl
