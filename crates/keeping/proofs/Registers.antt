-- One more register, younger than all.
use Rattle.std.proofs.Common.{◌≡◌, ℕ, zero, suc, ◌<◌, ◌≤◌, ◌⊎◌, List, [], ◌∷◌, reverse, length, get_or, set, sym, refl, ap, ◌∙◌, subst, inl, inr, arith}
use Rattle.std.proofs.lemmas.List.{map-set, length-map}
use Rattle.chip.specs.Pages.{Page}
use Rattle.readings.specs.Sorted.{In, reading_of}
use Rattle.readings.specs.Sayings.{Register, Saying, nothing, register, said, sayings}
use Rattle.readings.specs.Reading.{birth_of, with_version, versions, clock_of, latest, reading}
use Rattle.keeping.specs.Cut.{Registers}
use Rattle.keeping.proofs.Blocks.{erased_said}
use Rattle.keeping.proofs.Reading.{clock_above, clock_below, latest_above, latest_in}

-- What stands in a list after a write.
pub in_set : {A : Type 0} (xs : List A) (k : ℕ) (x y : A) → In y (set xs k x) → (y ≡ x) ⊎ In y xs
in_set [] k x y i = absurd i
in_set (z ∷ zs) zero x y (inl e) = inl e
in_set (z ∷ zs) zero x y (inr i) = inr (inr i)
in_set (z ∷ zs) (suc k) x y (inl e) = inr (inl e)
in_set (z ∷ zs) (suc k) x y (inr i) = elim (in_set zs k x y i) [ inl e ↦ inl e | inr j ↦ inr (inr j) ]

pub set_in : {A : Type 0} (xs : List A) (k : ℕ) (x : A) → k < length xs → In x (set xs k x)
set_in [] k x h = absurd (omega arith)
set_in (z ∷ zs) zero x h = inl refl
set_in (z ∷ zs) (suc k) x h = inr (set_in zs k x (omega arith))

-- A register where nothing was said leaves the versions as they are.
versions_set : (xs : List Saying) (k : ℕ) (r : Register) → get_or xs k nothing ≡ nothing → versions (set xs k (register r)) ≡ versions xs
unfolding versions
versions_set [] k r e = refl
versions_set (x ∷ xs) zero r e = sym (ap (λ y. with_version y (versions xs)) e)
versions_set (x ∷ xs) (suc k) r e = ap (with_version x) (versions_set xs k r e)

module _ (pages : List Page) (r : Register) (pages' : List Page) (w : Registers pages r pages') (clock : ℕ) (old : (x : Saying) → In x (sayings pages) → birth_of x ≤ clock) (born : r.birth ≡ suc clock) where
  abbrev xs : List Saying
  xs = sayings pages

  abbrev ys : List Saying
  ys = sayings pages'

  sayings_are : ys ≡ set xs w.place (register r)
  sayings_are = ap sayings w.pages_are ∙ map-set said pages w.place w.page ∙ ap (set xs w.place) w.says

  pub says_register : In (register r) ys
  says_register = subst (In (register r)) (sym sayings_are) (set_in xs w.place (register r) (let q = length-map pages said in let l = w.inside in omega arith))

  pub says_else : (x : Saying) → In x ys → (x ≡ register r) ⊎ In x xs
  says_else x i = in_set xs w.place (register r) x (subst (In x) sayings_are i)

  pub versions_are : versions ys ≡ versions xs
  versions_are = ap versions sayings_are ∙ versions_set xs w.place r (erased_said pages w.place w.free)

  pub clock_next : clock_of ys ≡ suc clock
  clock_next =
      let a : clock_of ys ≤ suc clock = clock_below ys (suc clock) (λ x i. elim (says_else x i) [ inl e ↦ let q = ap birth_of e in omega arith | inr j ↦ let q = old x j in omega arith ]) in
      let b : r.birth ≤ clock_of ys = clock_above ys (register r) says_register in
      omega arith

  pub latest_next : latest ys ≡ r
  latest_next =
      let a = latest_above ys r says_register in
      elim (says_else (register (latest ys)) (latest_in ys r says_register)) [
        | inl e ↦ same e
        | inr j ↦ let q = old (register (latest ys)) j in absurd (omega arith)
      ]
    where
      same : {a b : Register} → register a ≡ register b → a ≡ b
      same e = cc

  pub reading_next : reading ys ≡ reading_of r.label (suc clock) (reverse r.held) (versions xs)
  unfolding reading
  reading_next = rw (latest_next, clock_next, versions_are) refl
