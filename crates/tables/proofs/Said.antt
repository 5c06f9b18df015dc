-- What is said, by places, and the versions said.
use Rattle.std.proofs.Common.{◌≡◌, ℕ, zero, suc, ◌<◌, List, [], ◌∷◌, length, get_or, sym, refl, ap, ◌∙◌, subst, inl, inr, arith}
use Rattle.std.proofs.lemmas.List.{get_or-map, length-map}
use Rattle.chip.specs.Pages.{Page}
use Rattle.readings.specs.Versions.{Version}
use Rattle.readings.specs.Sorted.{In}
use Rattle.readings.specs.Sayings.{Saying, nothing, version, register, bad, said, sayings}
use Rattle.readings.specs.Reading.{versions}

-- What stands in a list, by places.
pub in_at : {A : Type 0} (xs : List A) (k : ℕ) (d : A) → k < length xs → In (get_or xs k d) xs
in_at [] k d h = absurd (omega arith)
in_at (x ∷ xs) zero d h = inl refl
in_at (x ∷ xs) (suc k) d h = inr (in_at xs k d (omega arith))

at_in : {A : Type 0} (xs : List A) (d x : A) → In x xs → (k : ℕ) × (k < length xs) × (get_or xs k d ≡ x)
at_in [] d x h = absurd h
at_in (y ∷ ys) d x (inl e) = (0, omega arith, sym e)
at_in (y ∷ ys) d x (inr h) = let r = at_in ys d x h in (suc r.0, let q = r.1 in omega arith, r.2)

pub says_at : (pages : List Page) (x : Saying) → In x (sayings pages) → (k : ℕ) × (k < length pages) × (said (get_or pages k []) ≡ x)
says_at pages x h =
    let r = at_in (sayings pages) nothing x h in
    let l : r.0 < length pages = let q = r.1 in let e = length-map pages said in omega arith in
    (r.0, l, sym (get_or-map said pages r.0 [] nothing l) ∙ r.2)

pub at_says : (pages : List Page) (x : Saying) (k : ℕ) → k < length pages → said (get_or pages k []) ≡ x → In x (sayings pages)
at_says pages x k l e =
    subst (λ z. In z (sayings pages)) (get_or-map said pages k [] nothing l ∙ e) (in_at (sayings pages) k nothing (let q = length-map pages said in omega arith))

-- The versions said.
pub in_versions : (xs : List Saying) (v : Version) → In v (versions xs) → In (version v) xs
unfolding versions
in_versions [] v h = h
in_versions (nothing ∷ xs) v h = inr (in_versions xs v h)
in_versions (version w ∷ xs) v (inl e) = inl (ap version e)
in_versions (version w ∷ xs) v (inr h) = inr (in_versions xs v h)
in_versions (register r ∷ xs) v h = inr (in_versions xs v h)
in_versions (bad c ∷ xs) v h = inr (in_versions xs v h)

pub versions_in : (xs : List Saying) (v : Version) → In (version v) xs → In v (versions xs)
unfolding versions
versions_in [] v h = h
versions_in (nothing ∷ xs) v (inl e) = cc
versions_in (nothing ∷ xs) v (inr h) = versions_in xs v h
versions_in (version w ∷ xs) v (inl e) = inl cc
versions_in (version w ∷ xs) v (inr h) = inr (versions_in xs v h)
versions_in (register r ∷ xs) v (inl e) = cc
versions_in (register r ∷ xs) v (inr h) = versions_in xs v h
versions_in (bad c ∷ xs) v (inl e) = cc
versions_in (bad c ∷ xs) v (inr h) = versions_in xs v h
