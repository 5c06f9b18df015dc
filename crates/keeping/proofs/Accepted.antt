-- What mount asks of pages.
use Rattle.std.proofs.Common.{◌≡◌, ℕ, ◌+◌, ◌*◌, ◌<◌, Bool, true, false, cond, not, ◌&&◌, ltb, ◌⊎◌, List, [], ◌∷◌, length, get_or, sym, refl, ap, ◌∙◌, subst, inl, inr, arith}
use Rattle.std.proofs.lemmas.Bool.{and_parts, and_from, not-true, not_from_false, cases_Bool, cond-true, ltb-false, le-ltb}
use Rattle.chip.specs.Pages.{Page}
use Rattle.readings.specs.Versions.{any}
use Rattle.readings.specs.Sorted.{In}
use Rattle.readings.specs.Sayings.{Register, Saying, nothing, version, register, bad, said, sayings}
use Rattle.readings.specs.Reading.{birth_of, latest, reading}
use Rattle.readings.specs.Mount.{capacity, Verdict, plain, bad_from, is_register, is_nothing, births, distinct, erased_block, is_store, size_fits, mount_verdict}
use Rattle.moving.proofs.Says.{nothing_is}
use Rattle.keeping.specs.Stored.{InLimits, Lone, Stored, AcceptedIsStored, StoredIsAccepted}
use Rattle.keeping.proofs.Lists.{says_at, any_in, in_any}
use Rattle.keeping.proofs.Limits.{said_limits, birth_first}
use Rattle.keeping.proofs.Births.{distinct_lone, lone_distinct}
use Rattle.keeping.proofs.Reading.{latest_in}

-- No page is bad.
module _ (o : Verdict) where
  pub from_good : (k : ℕ) (xs : List Saying) → bad_from k xs o ≡ plain 0 → ((c : ℕ) → In (bad c) xs → ⊥) × (o ≡ plain 0)
  from_good k [] e = (λ c h. h, e)
  from_good k (nothing ∷ xs) e = let r = from_good (k + 1) xs e in (λ c i. elim i [ inl f ↦ let z : ◌≡◌ {A = ℕ} 0 1 = cc in omega arith | inr j ↦ r.0 c j ], r.1)
  from_good k (version v ∷ xs) e = let r = from_good (k + 1) xs e in (λ c i. elim i [ inl f ↦ let z : ◌≡◌ {A = ℕ} 0 1 = cc in omega arith | inr j ↦ r.0 c j ], r.1)
  from_good k (register g ∷ xs) e = let r = from_good (k + 1) xs e in (λ c i. elim i [ inl f ↦ let z : ◌≡◌ {A = ℕ} 0 1 = cc in omega arith | inr j ↦ r.0 c j ], r.1)
  from_good k (bad c ∷ xs) e = let z : ◌≡◌ {A = ℕ} 5 0 = ap (λ (v : Verdict). v.number) e in absurd (omega arith)

  pub good_from : (k : ℕ) (xs : List Saying) → ((c : ℕ) → In (bad c) xs → ⊥) → bad_from k xs o ≡ o
  good_from k [] h = refl
  good_from k (nothing ∷ xs) h = good_from (k + 1) xs (λ c i. h c (inr i))
  good_from k (version v ∷ xs) h = good_from (k + 1) xs (λ c i. h c (inr i))
  good_from k (register g ∷ xs) h = good_from (k + 1) xs (λ c i. h c (inr i))
  good_from k (bad c ∷ xs) h = absurd (h c (inl refl))

register_is : (x : Saying) → is_register x ≡ true → (r : Register) × (x ≡ register r)
register_is nothing h = let z : ◌≡◌ {A = ℕ} 0 1 = cc in absurd (omega arith)
register_is (version v) h = let z : ◌≡◌ {A = ℕ} 0 1 = cc in absurd (omega arith)
register_is (register r) h = (r, refl)
register_is (bad c) h = let z : ◌≡◌ {A = ℕ} 0 1 = cc in absurd (omega arith)

-- A verdict of number 0 comes from a test that holds.
accepts : (b : Bool) (v : Verdict) (n : ℕ) → cond b v (plain n) ≡ plain 0 → 0 < n → (b ≡ true) × (v ≡ plain 0)
accepts true v n e h = (refl, e)
accepts false v n e h = let z : n ≡ 0 = ap (λ (v : Verdict). v.number) e in absurd (omega arith)

module _ (blocks per : ℕ) (pages : List Page) where
  abbrev xs : List Saying
  xs = sayings pages

  abbrev inner : Verdict
  inner = cond (is_store blocks per xs) (plain 0) (plain 6)

  abbrev few_enough : Bool
  few_enough = not (ltb (capacity blocks per) (length (reading xs).versions))

  module _ (none_bad : (c : ℕ) → In (bad c) xs → ⊥) (lone : Lone pages) where
    within : (x : Saying) → In x xs → InLimits x
    within x i = let r = says_at pages x i in subst InLimits r.2 (said_limits (get_or pages r.0 []))

    dated : (x : Saying) → In x xs → (x ≡ nothing) ⊎ (0 < birth_of x)
    dated x i = birth_first x (within x i) (λ c e. none_bad c (subst (λ y. In y xs) e i))

    unborn : (x : Saying) → In x xs → birth_of x ≡ 0 → x ≡ nothing
    unborn x i e = elim (dated x i) [ inl f ↦ f | inr l ↦ absurd (omega arith) ]

    once : (x y : Saying) → In x xs → In y xs → birth_of x ≡ birth_of y → x ≡ y
    once x y i j e = elim (cases_Bool (is_nothing x)) [
      | inl n ↦ let f = nothing_is x n in f ∙ sym (unborn y j (sym e ∙ ap birth_of f))
      | inr n ↦ elim (cases_Bool (is_nothing y)) [
        | inl m ↦ let f = nothing_is y m in unborn x i (e ∙ ap birth_of f) ∙ sym f
        | inr m ↦
            let a = says_at pages x i in
            let b = says_at pages y j in
            let k = lone a.0 b.0 a.1 b.1 (ap is_nothing a.2 ∙ n) (ap is_nothing b.2 ∙ m) (ap birth_of a.2 ∙ e ∙ ap birth_of (sym b.2)) in
            sym a.2 ∙ ap (λ k. said (get_or pages k [])) k ∙ b.2
      ]
    ]

  stored : mount_verdict blocks per pages ≡ plain 0 → Stored blocks per pages
  stored h =
      let a = accepts (size_fits blocks per) (bad_from 0 xs inner) 3 h (omega arith) in
      let size = and_parts (not (ltb blocks 2)) (not (ltb 2048 (blocks * per))) a.0 in
      let b = from_good inner 0 xs a.1 in
      let c = (accepts (is_store blocks per xs) (plain 0) 6 b.1 (omega arith)).0 in
      let d = and_parts (any is_register xs) (distinct (births xs) && (erased_block per blocks xs && few_enough)) c in
      let e = and_parts (distinct (births xs)) (erased_block per blocks xs && few_enough) d.1 in
      let f = and_parts (erased_block per blocks xs) few_enough e.1 in
      let lone = distinct_lone pages e.0 in
      let r = in_any is_register xs d.0 in
      let g = register_is r.0 r.2 in
      record {
        told = record { dated = dated b.0 lone; once = once b.0 lone; begun = latest_in xs g.0 (subst (λ y. In y xs) g.1 r.1) };
        none_bad = b.0;
        limits = within b.0 lone;
        lone = lone;
        two_blocks = ltb-false blocks 2 (not-true (ltb blocks 2) size.0);
        small = ltb-false 2048 (blocks * per) (not-true (ltb 2048 (blocks * per)) size.1);
        has_erased_block = f.0;
        room = ltb-false (capacity blocks per) (length (reading xs).versions) (not-true (ltb (capacity blocks per) (length (reading xs).versions)) f.1);
      }

  accepted : Stored blocks per pages → mount_verdict blocks per pages ≡ plain 0
  accepted s =
      let few = not_from_false (ltb (capacity blocks per) (length (reading xs).versions)) (le-ltb (capacity blocks per) (length (reading xs).versions) s.room) in
      let store : is_store blocks per xs ≡ true =
      and_from (any is_register xs) (distinct (births xs) && (erased_block per blocks xs && few_enough)) (any_in is_register xs (register (latest xs)) s.told.begun refl)
      (and_from (distinct (births xs)) (erased_block per blocks xs && few_enough) (lone_distinct pages s.lone)
      (and_from (erased_block per blocks xs) few_enough s.has_erased_block few)) in
      let size : size_fits blocks per ≡ true =
      and_from (not (ltb blocks 2)) (not (ltb 2048 (blocks * per))) (not_from_false (ltb blocks 2) (le-ltb blocks 2 s.two_blocks))
      (not_from_false (ltb 2048 (blocks * per)) (le-ltb 2048 (blocks * per) s.small)) in
      cond-true (size_fits blocks per) (bad_from 0 xs inner) (plain 3) size ∙ good_from inner 0 xs s.none_bad ∙ cond-true (is_store blocks per xs) (plain 0) (plain 6) store

pub accepted_is_stored : AcceptedIsStored
accepted_is_stored blocks per pages h = stored blocks per pages h

pub stored_is_accepted : StoredIsAccepted
stored_is_accepted blocks per pages s = accepted blocks per pages s
