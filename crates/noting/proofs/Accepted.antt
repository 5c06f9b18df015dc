-- What is consistent is a store.
use Rattle.std.proofs.Common.{◌≡◌, ℕ, zero, suc, ◌+◌, ◌*◌, ◌<◌, Bool, true, false, cond, not, eqb, List, [], ◌∷◌, length, get_or, take, drop, sym, refl, ap, ◌∙◌, inl, inr, suc-mul, arith}
use Rattle.std.proofs.lemmas.List.{get_or_past, get_or-take, get_or-drop, get_or-map, length-map, length-take}
use Rattle.std.proofs.lemmas.Bool.{cases_lt, cases_Bool, le-ltb, eqb-true, and_from, or_left, or_right, or_cases, both_ways, not_from_false}
use Rattle.chip.specs.Pages.{Page}
use Rattle.readings.specs.Versions.{any, has}
use Rattle.readings.specs.Sorted.{In}
use Rattle.readings.specs.Sayings.{Register, Saying, nothing, version, register, bad, said, sayings}
use Rattle.readings.specs.Reading.{birth_of, latest, reading}
use Rattle.readings.specs.Mount.{capacity, Verdict, plain, bad_from, is_register, is_nothing, with_birth, births, distinct, all_nothing, erased_block, is_store}
use Rattle.noting.specs.Consistent.{Lone, ConsistentAccepted}
use Rattle.tables.proofs.Said.{says_at}
use Rattle.noting.proofs.Sayings.{said_erased}

-- No page is bad.
good_from : (k : ℕ) (xs : List Saying) (o : Verdict) → ((c : ℕ) → In (bad c) xs → ⊥) → bad_from k xs o ≡ o
good_from k [] o h = refl
good_from k (nothing ∷ xs) o h = good_from (k + 1) xs o (λ c i. h c (inr i))
good_from k (version v ∷ xs) o h = good_from (k + 1) xs o (λ c i. h c (inr i))
good_from k (register r ∷ xs) o h = good_from (k + 1) xs o (λ c i. h c (inr i))
good_from k (bad c ∷ xs) o h = absurd (h c (inl refl))

any_register : (xs : List Saying) (g : Register) → In (register g) xs → any is_register xs ≡ true
any_register [] g i = absurd i
any_register (x ∷ xs) g (inl e) = or_left (is_register x) (any is_register xs) (ap is_register (sym e))
any_register (x ∷ xs) g (inr i) = or_right (is_register x) (any is_register xs) (any_register xs g i)

-- A birth is that of a page.
birth_in_lem : (n : ℕ) (xs : List Saying) → has n (births xs) ≡ true → (x : Saying) × In x xs × (is_nothing x ≡ false) × (birth_of x ≡ n)
unfolding births
birth_in_lem n [] h = absurd (both_ways false refl h)
birth_in_lem n (x ∷ xs) h = go (is_nothing x) refl h (birth_in_lem n xs)
  where
    go : (b : Bool) → is_nothing x ≡ b → has n (with_birth b (birth_of x) (births xs)) ≡ true →
        (has n (births xs) ≡ true → (y : Saying) × In y xs × (is_nothing y ≡ false) × (birth_of y ≡ n)) → (y : Saying) × In y (x ∷ xs) × (is_nothing y ≡ false) × (birth_of y ≡ n)
    go true e h ih = let r = ih h in (r.0, inr r.1, r.2, r.3)
    go false e h ih = elim (or_cases (eqb n (birth_of x)) (has n (births xs)) h) [
      | inl t ↦ (x, inl refl, e, sym (eqb-true n (birth_of x) t))
      | inr t ↦ let r = ih t in (r.0, inr r.1, r.2, r.3)
    ]

-- No birth stands twice.
pub lone_distinct : (pages : List Page) → Lone pages → distinct (births (sayings pages)) ≡ true
unfolding distinct births
lone_distinct [] lone = refl
lone_distinct (p ∷ ps) lone =
    go (is_nothing (said p)) refl (lone_distinct ps (λ j k hj hk sj sk e. let z : suc j ≡ suc k = lone (suc j) (suc k) (omega arith) (omega arith) sj sk e in omega arith))
  where
    go : (b : Bool) → is_nothing (said p) ≡ b → distinct (births (sayings ps)) ≡ true → distinct (with_birth b (birth_of (said p)) (births (sayings ps))) ≡ true
    go true e rest = rest
    go false e rest = elim (cases_Bool (has (birth_of (said p)) (births (sayings ps)))) [
      | inl t ↦
          let r = birth_in_lem (birth_of (said p)) (sayings ps) t in
          let q = says_at ps r.0 r.1 in
          let h = q.1 in
          let z : ◌≡◌ {A = ℕ} 0 (suc q.0) = lone 0 (suc q.0) (omega arith) (omega arith) e (ap is_nothing q.2 ∙ r.2) (sym r.3 ∙ sym (ap birth_of q.2)) in
          absurd (omega arith)
      | inr t ↦ and_from (not (has (birth_of (said p)) (births (sayings ps)))) (distinct (births (sayings ps))) (not_from_false (has (birth_of (said p)) (births (sayings ps))) t) rest
    ]

-- A block that says nothing.
all_nothing_lem : (xs : List Saying) → ((j : ℕ) → j < length xs → is_nothing (get_or xs j nothing) ≡ true) → all_nothing xs ≡ true
unfolding all_nothing
all_nothing_lem [] h = refl
all_nothing_lem (x ∷ xs) h = and_from (is_nothing x) (all_nothing xs) (h 0 (omega arith)) (all_nothing_lem xs (λ j l. h (suc j) (omega arith)))

has_erased_block : (per blocks b : ℕ) (xs : List Saying) → b < blocks → ((j : ℕ) → j < per → is_nothing (get_or xs (b * per + j) nothing) ≡ true) → erased_block per blocks xs ≡ true
unfolding erased_block
has_erased_block per zero b xs h all = absurd (omega arith)
has_erased_block per (suc blocks) zero xs h all =
    or_left (all_nothing (take per xs)) (erased_block per blocks (drop per xs))
    (all_nothing_lem (take per xs) (λ j l.
    let m = length-take per xs in
    let q : j < per = omega arith in
    let z : 0 * per + j ≡ j = omega arith in
    ap is_nothing (get_or-take per xs j nothing q) ∙ ap (λ i. is_nothing (get_or xs i nothing)) (sym z) ∙ all j q))
has_erased_block per (suc blocks) (suc b) xs h all =
    or_right (all_nothing (take per xs)) (erased_block per blocks (drop per xs))
    (has_erased_block per blocks b (drop per xs) (omega arith) (λ j l.
    let z : per + (b * per + j) ≡ suc b * per + j = omega (arith, suc-mul b per) in
    ap is_nothing (get_or-drop per xs (b * per + j) nothing) ∙ ap (λ i. is_nothing (get_or xs i nothing)) z ∙ all j l))

pub consistent_accepted : ConsistentAccepted
consistent_accepted blocks per pages ix con fits room =
    let xs = sayings pages in
    let spare = ix.spare.0 in
    let spare-nothing : (j : ℕ) → j < per → is_nothing (get_or xs (spare * per + j) nothing) ≡ true = λ j h. elim (cases_lt (spare * per + j) (length pages)) [
      | inl l ↦ ap is_nothing (get_or-map said pages (spare * per + j) [] nothing l ∙ said_erased (get_or pages (spare * per + j) []) (con.tells.spare_erased j h))
      | inr l ↦ ap is_nothing (get_or_past xs (spare * per + j) nothing (let q = length-map pages said in omega arith))
    ] in
    let no-bad : (c : ℕ) → In (bad c) xs → ⊥ = λ c i. elim (con.told.dated (bad c) i) [ inl e ↦ let z : ◌≡◌ {A = ℕ} 0 1 = cc in omega arith | inr l ↦ omega arith ] in
    let store : is_store blocks per xs ≡ true =
    rw (
      any_register xs (latest xs) con.told.begun,
      lone_distinct pages con.lone,
      has_erased_block per blocks spare xs con.tells.spare_block spare-nothing,
      le-ltb (capacity blocks per) (length (reading xs).versions) room,
    ) refl in
    rw (fits, good_from 0 xs (cond (is_store blocks per xs) (plain 0) (plain 6)) no-bad, store) refl
