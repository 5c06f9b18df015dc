-- A line whose numbers fall: what comes before a mark is what was born at or before its number.
use Rattle.std.proofs.Common.{◌≡◌, ℕ, zero, suc, ◌+◌, ◌-◌, ◌<◌, ◌≤◌, true, false, cond, not, eqb, ltb, leb, List, [], ◌∷◌, reverse, length, get_or, sym, refl, ap, ap₂, inl, inr, arith}
use Rattle.std.specs.List.{AllByRecursion}
use Rattle.std.specs.List.Sorted.{IsStrictlyIncreasing}
use Rattle.std.proofs.lemmas.Bool.Decides.{nat_tests}
use Rattle.std.proofs.lemmas.List.{length-reverse, get_or-reverse}
use Rattle.std.proofs.ByRecursion.{All-weaker}
use Rattle.std.proofs.lemmas.Bool.{eqb-true, eq-eqb, ne_eqb, or_cases, or_left, or_right, lt-leb, le-leb, lt-ltb, le-ltb}
use Rattle.readings.specs.Versions.{Version, keep, any, first, has, of, now, upto, youngest, is, needed, settle}
use Rattle.readings.specs.Sorted.{In}
use Rattle.line.specs.Line.{Item, entry, mark, entries, marks, before, unmark, last_of, needed_on, needs}
use Rattle.readings.proofs.Lists.{keep_ext, first_ext, any_ext, all_of, all_in, keep_id}

abbrev pub number : Item → ℕ
number (entry v) = v.birth
number (mark n) = n

-- every number is below c, and they fall
abbrev pub Falls : ℕ → List Item → Type 0
Falls c [] = Unit {0}
Falls c (x ∷ l) = (number x < c) × Falls (number x) l

pub falls_more : (c d : ℕ) (l : List Item) → c ≤ d → Falls c l → Falls d l
falls_more c d [] h f = tt
falls_more c d (x ∷ l) h f = (let q = f.0 in omega arith, f.1)

pub births_below : (c : ℕ) (l : List Item) → Falls c l → AllByRecursion (λ v. v.birth < c) (entries l)
unfolding entries
births_below c [] f = tt
births_below c (entry v ∷ l) f = (f.0, births_below c l (falls_more v.birth c l (let q = f.0 in omega arith) f.1))
births_below c (mark n ∷ l) f = births_below c l (falls_more n c l (let q = f.0 in omega arith) f.1)

pub marks_below : (c : ℕ) (l : List Item) → Falls c l → (n : ℕ) → has n (marks l) ≡ true → n < c
unfolding marks
marks_below c [] f n h = grind arith
marks_below c (entry v ∷ l) f n h = marks_below c l (falls_more v.birth c l (let q = f.0 in omega arith) f.1) n h
marks_below c (mark m ∷ l) f n h = elim (or_cases (eqb n m) (has n (marks l)) h) [
  | inl e ↦ (let q = eqb-true n m e in let r = f.0 in omega arith)
  | inr e ↦ (let q = marks_below m l f.1 n e in let r = f.0 in omega arith)
]

-- what a mark on the line tells of the line's first item
pub before_first : (c n : ℕ) (l : List Item) → Falls c l → has n (marks l) ≡ true → (s : ℕ) → youngest (upto n) s (entries l) ≡ last_of s (before n l)
unfolding entries marks before first
before_first c n [] f h s = grind arith
before_first c n (entry v ∷ l) f h s =
    let ih = before_first v.birth n l f.1 h s in
    let q = marks_below v.birth l f.1 n h in
    grind (arith, nat_tests)
before_first c n (mark m ∷ l) f h s = elim (or_cases (eqb n m) (has n (marks l)) h) [
  | inl e ↦ (let q : n ≡ m = eqb-true n m e in rw (eq-eqb m n (sym q))
      (first_ext (of (upto n) s) (λ v. eqb v.sector s) (entries l)
      (All-weaker (λ v. v.birth < m) _ (λ v k. grind (arith, nat_tests)) (entries l) (births_below m l f.1))))
  | inr e ↦ (let q = marks_below m l f.1 n e in rw (ne_eqb m n (λ z. omega arith)) (before_first m n l f.1 e s))
]

pub has_in : (l : List ℕ) (n : ℕ) → In n l → has n l ≡ true
has_in [] n h = absurd h
has_in (m ∷ ms) n (inl k) = or_left (eqb n m) (has n ms) (eq-eqb n m k)
has_in (m ∷ ms) n (inr k) = or_right (eqb n m) (has n ms) (has_in ms n k)

-- the two ways to say what is needed
pub needed_same : (c : ℕ) (l : List Item) → Falls c l → (v : Version) → needed_on l v ≡ needed (marks l) (entries l) v
unfolding needed_on needed
needed_same c l f v = rw (now_is, any_ext _ _ (marks l) (all_in _ (marks l) (λ n i. ap (is v) (sym (before_first c n l f (has_in (marks l) n i) v.sector)))))
  where
    now_is : last_of v.sector l ≡ youngest now v.sector (entries l)
    now_is = first_ext _ _ (entries l) (all_of _ (entries l) (λ w. grind (arith, nat_tests)))

pub needs_same : (c : ℕ) (l : List Item) → Falls c l → needs l ≡ length (settle (marks l) (entries l))
unfolding needs settle
needs_same c l f = ap length (keep_ext (needed_on l) (needed (marks l) (entries l)) (entries l) (all_of _ (entries l) (needed_same c l f)))

-- a cut
pub all_marks : (P : ℕ → Type 0) (c : ℕ) (l : List Item) → Falls c l → ((n : ℕ) → n < c → P n) → AllByRecursion P (marks l)
all_marks P c l f h = all_in P (marks l) (λ n i. h n (marks_below c l f n (has_in (marks l) n i)))

pub cut_entries : (c n : ℕ) (l : List Item) → Falls c l → has n (marks l) ≡ true → keep (λ v. leb v.birth n) (entries l) ≡ entries (before n l)
unfolding entries marks before keep
cut_entries c n [] f h = refl
cut_entries c n (entry v ∷ l) f h = rw (lt-leb v.birth n (marks_below v.birth l f.1 n h)) (cut_entries v.birth n l f.1 h)
cut_entries c n (mark m ∷ l) f h = elim (or_cases (eqb n m) (has n (marks l)) h) [
  | inl e ↦ (let q : n ≡ m = eqb-true n m e in rw (eq-eqb m n (sym q))
      (keep_id _ (entries l) (All-weaker (λ v. v.birth < m) _ (λ v k. le-leb v.birth n (omega arith)) (entries l) (births_below m l f.1))))
  | inr e ↦ (let q = marks_below m l f.1 n e in rw (ne_eqb m n (λ z. omega arith)) (cut_entries m n l f.1 e))
]

pub cut_marks : (c n : ℕ) (l : List Item) → Falls c l → has n (marks l) ≡ true → keep (λ m. leb m n) (marks l) ≡ n ∷ marks (before n l)
unfolding entries marks before keep
cut_marks c n [] f h = let z : ◌≡◌ {A = ℕ} 0 1 = cc in absurd (omega arith)
cut_marks c n (entry v ∷ l) f h = cut_marks v.birth n l f.1 h
cut_marks c n (mark m ∷ l) f h = elim (or_cases (eqb n m) (has n (marks l)) h) [
  | inl e ↦ (let q : n ≡ m = eqb-true n m e in rw (eq-eqb m n (sym q), le-leb m n (omega arith))
      (ap₂ (λ (a : ℕ) (t : List ℕ). a ∷ t) (sym q) (keep_id (λ k. leb k n) (marks l) (all_marks _ m l f.1 (λ k i. le-leb k n (omega arith))))))
  | inr e ↦ (let q = marks_below m l f.1 n e in rw (ne_eqb m n (λ z. omega arith), lt-leb m n q) (cut_marks m n l f.1 e))
]

pub back_marks : (c n : ℕ) (l : List Item) → Falls c l → has n (marks l) ≡ true → keep (λ m. ltb m n) (marks l) ≡ marks (before n l)
unfolding entries marks before keep
back_marks c n [] f h = refl
back_marks c n (entry v ∷ l) f h = back_marks v.birth n l f.1 h
back_marks c n (mark m ∷ l) f h = elim (or_cases (eqb n m) (has n (marks l)) h) [
  | inl e ↦ (let q : n ≡ m = eqb-true n m e in rw (eq-eqb m n (sym q), le-ltb m n (omega arith))
      (keep_id (λ k. ltb k n) (marks l) (all_marks _ m l f.1 (λ k i. lt-ltb k n (omega arith)))))
  | inr e ↦ (let q = marks_below m l f.1 n e in rw (ne_eqb m n (λ z. omega arith), le-ltb m n (omega arith)) (back_marks m n l f.1 e))
]

pub falls_before : (c n : ℕ) (l : List Item) → Falls c l → has n (marks l) ≡ true → Falls n (before n l)
unfolding entries marks before keep
falls_before c n [] f h = tt
falls_before c n (entry v ∷ l) f h = falls_before v.birth n l f.1 h
falls_before c n (mark m ∷ l) f h = elim (or_cases (eqb n m) (has n (marks l)) h) [
  | inl e ↦ (let q : n ≡ m = eqb-true n m e in rw (eq-eqb m n (sym q)) (falls_more m n l (omega arith) f.1))
  | inr e ↦ (let q = marks_below m l f.1 n e in rw (ne_eqb m n (λ z. omega arith)) (falls_before m n l f.1 e))
]

-- a mark taken out
pub unmark_entries : (n : ℕ) (l : List Item) → entries (unmark n l) ≡ entries l
unfolding entries unmark
unmark_entries n [] = refl
unmark_entries n (entry v ∷ l) = rw (unmark_entries n l)
unmark_entries n (mark m ∷ l) = let ih = unmark_entries n l in grind arith

pub unmark_marks : (n : ℕ) (l : List Item) → marks (unmark n l) ≡ keep (λ m. not (eqb m n)) (marks l)
unfolding marks unmark keep
unmark_marks n [] = refl
unmark_marks n (entry v ∷ l) = unmark_marks n l
unmark_marks n (mark m ∷ l) = let ih = unmark_marks n l in grind arith

pub falls_unmark : (c n : ℕ) (l : List Item) → Falls c l → Falls c (unmark n l)
unfolding unmark
falls_unmark c n [] f = tt
falls_unmark c n (entry v ∷ l) f = (f.0, falls_unmark v.birth n l f.1)
falls_unmark c n (mark m ∷ l) f =
    elim (eqb m n) as (λ b. Falls c (cond b (unmark n l) (mark m ∷ unmark n l))) [
      | true ↦ falls_more m c (unmark n l) (let q = f.0 in omega arith) (falls_unmark m n l f.1)
      | false ↦ (f.0, falls_unmark m n l f.1)
    ]

-- the marks of a line, from the first on, rise
first_mark_below : (c : ℕ) (l : List Item) → Falls c l → 0 < length (marks l) → get_or (marks l) 0 0 < c
unfolding marks
first_mark_below c [] f h = absurd (omega arith)
first_mark_below c (entry v ∷ l) f h = let q = first_mark_below v.birth l f.1 h in let k = f.0 in omega arith
first_mark_below c (mark n ∷ l) f h = f.0

marks_fall : (c : ℕ) (l : List Item) → Falls c l → (k : ℕ) → suc k < length (marks l) → get_or (marks l) (suc k) 0 < get_or (marks l) k 0
unfolding marks
marks_fall c [] f k h = absurd (omega arith)
marks_fall c (entry v ∷ l) f k h = marks_fall v.birth l f.1 k h
marks_fall c (mark n ∷ l) f zero h = first_mark_below n l f.1 (omega arith)
marks_fall c (mark n ∷ l) f (suc k) h = marks_fall n l f.1 k (omega arith)

pub marks_rise : (c : ℕ) (l : List Item) → Falls c l → IsStrictlyIncreasing (reverse (marks l))
marks_rise c l f k h =
    let ms = marks l in
    let i : k + 1 < length ms = rw (length-reverse ms) at h in
    let j : length ms - 1 - k ≡ suc (length ms - 1 - (k + 1)) = omega arith in
    rw (get_or-reverse ms k 0 (omega arith), get_or-reverse ms (k + 1) 0 i, j) (marks_fall c l f (length ms - 1 - (k + 1)) (omega arith))
