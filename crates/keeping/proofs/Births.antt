-- The births of the programmed pages are distinct where no birth stands on two of them.
use Rattle.std.proofs.Common.{◌≡◌, ℕ, zero, suc, Bool, true, false, not, eqb, List, [], ◌∷◌, get_or, sym, refl, ap, ◌∙◌, inl, inr, arith}
use Rattle.std.proofs.lemmas.Bool.{and_parts, and_from, or_cases, or_left, or_right, eqb-true, eq-eqb, not-true, not_from_false, both_ways, cases_Bool}
use Rattle.chip.specs.Pages.{Page}
use Rattle.readings.specs.Versions.{any, has}
use Rattle.readings.specs.Sorted.{In}
use Rattle.readings.specs.Sayings.{Saying, said, sayings}
use Rattle.readings.specs.Reading.{birth_of}
use Rattle.readings.specs.Mount.{is_nothing, with_birth, births, distinct}
use Rattle.keeping.specs.Stored.{Lone}
use Rattle.keeping.proofs.Lists.{says_at, at_says}

pub births_has : (xs : List Saying) (x : Saying) → In x xs → is_nothing x ≡ false → has (birth_of x) (births xs) ≡ true
unfolding births
births_has [] x h n = absurd h
births_has (y ∷ ys) x h n = go (is_nothing y) refl h (λ i. births_has ys x i n)
  where
    go : (b : Bool) → is_nothing y ≡ b → In x (y ∷ ys) → (In x ys → has (birth_of x) (births ys) ≡ true) → has (birth_of x) (with_birth b (birth_of y) (births ys)) ≡ true
    go true e (inl f) ih = absurd (both_ways (is_nothing x) n (ap is_nothing f ∙ e))
    go true e (inr i) ih = ih i
    go false e (inl f) ih = or_left (eqb (birth_of x) (birth_of y)) (has (birth_of x) (births ys)) (eq-eqb (birth_of x) (birth_of y) (ap birth_of f))
    go false e (inr i) ih = or_right (eqb (birth_of x) (birth_of y)) (has (birth_of x) (births ys)) (ih i)

pub has_births : (xs : List Saying) (b : ℕ) → has b (births xs) ≡ true → (x : Saying) × In x xs × (is_nothing x ≡ false) × (birth_of x ≡ b)
unfolding births
has_births [] b h = let z : ◌≡◌ {A = ℕ} 0 1 = cc in absurd (omega arith)
has_births (y ∷ ys) b h = go (is_nothing y) refl h (has_births ys b)
  where
    later : ((x : Saying) × In x ys × (is_nothing x ≡ false) × (birth_of x ≡ b)) → (x : Saying) × In x (y ∷ ys) × (is_nothing x ≡ false) × (birth_of x ≡ b)
    later r = (r.0, inr r.1, r.2, r.3)

    go : (t : Bool) → is_nothing y ≡ t → has b (with_birth t (birth_of y) (births ys)) ≡ true →
        (has b (births ys) ≡ true → (x : Saying) × In x ys × (is_nothing x ≡ false) × (birth_of x ≡ b)) → (x : Saying) × In x (y ∷ ys) × (is_nothing x ≡ false) × (birth_of x ≡ b)
    go true e h ih = later (ih h)
    go false e h ih = elim (or_cases (eqb b (birth_of y)) (has b (births ys)) h) [
      | inl t ↦ (y, inl refl, e, sym (eqb-true b (birth_of y) t))
      | inr t ↦ later (ih t)
    ]

module _ (x : Saying) (xs : List Saying) where
  pub distinct_rest : distinct (births (x ∷ xs)) ≡ true → distinct (births xs) ≡ true
  unfolding births distinct
  distinct_rest d = go (is_nothing x) d
    where
      go : (b : Bool) → distinct (with_birth b (birth_of x) (births xs)) ≡ true → distinct (births xs) ≡ true
      go true h = h
      go false h = (and_parts (not (has (birth_of x) (births xs))) (distinct (births xs)) h).1

  pub distinct_first : distinct (births (x ∷ xs)) ≡ true → is_nothing x ≡ false → (y : Saying) → In y xs → is_nothing y ≡ false → birth_of y ≡ birth_of x → ⊥
  unfolding births distinct
  distinct_first d n y i m e = go (is_nothing x) n d
    where
      go : (b : Bool) → b ≡ false → distinct (with_birth b (birth_of x) (births xs)) ≡ true → ⊥
      go true f h = both_ways true f refl
      go false f h =
          both_ways (has (birth_of x) (births xs))
          (not-true (has (birth_of x) (births xs)) (and_parts (not (has (birth_of x) (births xs))) (distinct (births xs)) h).0)
          (ap (λ b. has b (births xs)) (sym e) ∙ births_has xs y i m)

  distinct_both : distinct (births xs) ≡ true → (is_nothing x ≡ false → (y : Saying) → In y xs → is_nothing y ≡ false → birth_of y ≡ birth_of x → ⊥) → distinct (births (x ∷ xs)) ≡ true
  unfolding births distinct
  distinct_both d other = go (is_nothing x) refl
    where
      go : (b : Bool) → is_nothing x ≡ b → distinct (with_birth b (birth_of x) (births xs)) ≡ true
      go true e = d
      go false e =
          and_from (not (has (birth_of x) (births xs))) (distinct (births xs))
          (not_from_false (has (birth_of x) (births xs)) (elim (cases_Bool (has (birth_of x) (births xs))) [
            | inl t ↦ let r = has_births xs (birth_of x) t in absurd (other e r.0 r.1 r.2 r.3)
            | inr f ↦ f
          ])) d

pub distinct_lone : (pages : List Page) → distinct (births (sayings pages)) ≡ true → Lone pages
distinct_lone [] d j k a b m n e = absurd (omega arith)
distinct_lone (p ∷ ps) d zero zero a b m n e = refl
distinct_lone (p ∷ ps) d zero (suc k) a b m n e =
    absurd (distinct_first (said p) (sayings ps) d m (said (get_or ps k [])) (at_says ps (said (get_or ps k [])) k (omega arith) refl) n (sym e))
distinct_lone (p ∷ ps) d (suc j) zero a b m n e =
    absurd (distinct_first (said p) (sayings ps) d n (said (get_or ps j [])) (at_says ps (said (get_or ps j [])) j (omega arith) refl) m e)
distinct_lone (p ∷ ps) d (suc j) (suc k) a b m n e =
    ap suc (distinct_lone ps (distinct_rest (said p) (sayings ps) d) j k (omega arith) (omega arith) m n e)

pub lone_distinct : (pages : List Page) → Lone pages → distinct (births (sayings pages)) ≡ true
unfolding births distinct
lone_distinct [] l = refl
lone_distinct (p ∷ ps) l =
    distinct_both (said p) (sayings ps)
    (lone_distinct ps (λ j k a b m n e. let z : suc j ≡ suc k = l (suc j) (suc k) (omega arith) (omega arith) m n e in omega arith))
    (λ n y i m e.
    let r = says_at ps y i in
    let q = r.1 in
    let z : 0 ≡ suc r.0 = l 0 (suc r.0) (omega arith) (omega arith) n (ap is_nothing r.2 ∙ m) (sym e ∙ ap birth_of (sym r.2)) in
    omega arith)
