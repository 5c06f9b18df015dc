-- No number stands twice: by counts, which a shuffle keeps, and by neighbours in a list that rises.
use Rattle.std.proofs.Common.{◌≡◌, ℕ, zero, suc, ◌+◌, ◌<◌, ◌≤◌, Bool, true, false, cond, eqb, ltb, List, [], ◌∷◌, length, get_or, sum_by, sym, refl, ap, ◌∙◌, arith}
use Rattle.std.specs.List.{AllByRecursion, IsAllAdjacentAnswer}
use Rattle.std.specs.List.Sorted.{IsNonDecreasing, IsPermutation}
use Rattle.std.proofs.lemmas.Bool.Decides.{nat_tests}
use Rattle.std.proofs.lemmas.Bool.{eqb-true, eq-eqb, ltb-true, ltb-false}
use Rattle.std.proofs.ByRecursion.{All-from_get_or}
use Rattle.std.proofs.lemmas.List.Sums.{sum_by-cons}
use Rattle.std.proofs.lemmas.List.Sorted.{sum_by-IsPermutation}
use Rattle.readings.specs.Versions.{has}
use Rattle.readings.specs.Mount.{distinct}

abbrev one : ℕ → ℕ → ℕ
one n x = cond (eqb n x) 1 0

-- how often n stands there
unfoldable count : ℕ → List ℕ → ℕ
count n [] = 0
count n (x ∷ xs) = one n x + count n xs

count_sum : (n : ℕ) (xs : List ℕ) → count n xs ≡ sum_by (one n) xs
unfolding count
count_sum n [] = refl
count_sum n (x ∷ xs) = ap (λ k. one n x + k) (count_sum n xs) ∙ sym (sum_by-cons (one n) x xs)

count_shuffled : (xs ys : List ℕ) → IsPermutation xs ys → (n : ℕ) → count n ys ≡ count n xs
count_shuffled xs ys s n = count_sum n ys ∙ sum_by-IsPermutation (one n) xs ys s ∙ sym (count_sum n xs)

has_none : (n : ℕ) (xs : List ℕ) → has n xs ≡ false → count n xs ≡ 0
unfolding count
has_none n [] h = refl
has_none n (x ∷ xs) h = let ih = has_none n xs in grind (arith, nat_tests)

has_some : (n : ℕ) (xs : List ℕ) → has n xs ≡ true → 1 ≤ count n xs
unfolding count
has_some n [] h = grind arith
has_some n (x ∷ xs) h = let ih = has_some n xs in grind (arith, nat_tests)

once : (xs : List ℕ) → distinct xs ≡ true → (n : ℕ) → count n xs ≤ 1
unfolding count distinct
once [] h n = omega arith
once (x ∷ xs) h n =
    let ih = once xs in
    let p : has x xs ≡ false = grind arith in
    let q : distinct xs ≡ true = grind arith in
    let z = has_none x xs p in
    let i = ih q n in
    go (eqb n x) refl z i
  where
    go : (b : Bool) → eqb n x ≡ b → count x xs ≡ 0 → count n xs ≤ 1 → cond b 1 0 + count n xs ≤ 1
    go true e z i = let f : n ≡ x = eqb-true n x e in let g : count n xs ≡ 0 = ap (λ k. count k xs) f ∙ z in omega arith
    go false e z i = omega arith

differ : (xs : List ℕ) → ((n : ℕ) → count n xs ≤ 1) → distinct xs ≡ true
unfolding count distinct
differ [] h = refl
differ (x ∷ xs) h =
    let ih = differ xs (λ n. let q = h n in omega arith) in
    let e = eq-eqb x x refl in
    let q : one x x + count x xs ≤ 1 = h x in
    let s = has_some x xs in
    grind (arith, nat_tests)

pub same_bool : (a b : Bool) → (a ≡ true → b ≡ true) → (b ≡ true → a ≡ true) → a ≡ b
same_bool a b f g = grind arith

pub distinct_shuffled : (xs ys : List ℕ) → IsPermutation xs ys → distinct ys ≡ distinct xs
distinct_shuffled xs ys s =
    same_bool (distinct ys) (distinct xs)
    (λ h. differ xs (λ n. let q = once ys h n in let e = count_shuffled xs ys s n in omega arith))
    (λ h. differ ys (λ n. let q = once xs h n in let e = count_shuffled xs ys s n in omega arith))

-- neighbours
below_all : (n : ℕ) (xs : List ℕ) → AllByRecursion (λ y. n < y) xs → has n xs ≡ false
below_all n [] h = refl
below_all n (x ∷ xs) h = let ih = below_all n xs h.1 in let l = h.0 in grind (arith, nat_tests)

-- a list that rises strictly
rises : (xs : List ℕ) → ((i j : ℕ) → i < j → j < length xs → get_or xs i 0 < get_or xs j 0) → distinct xs ≡ true
unfolding distinct
rises [] h = refl
rises (x ∷ xs) h =
    let ih = rises xs (λ i j l m. h (suc i) (suc j) (omega arith) (omega arith)) in
    let z = below_all x xs (All-from_get_or (λ y. x < y) xs 0 (λ k l. h 0 (suc k) (omega arith) (omega arith))) in
    grind arith

stands : (xs : List ℕ) (j n : ℕ) → j < length xs → n ≡ get_or xs j 0 → has n xs ≡ true
stands [] j n l e = absurd (omega arith)
stands (x ∷ xs) zero n l e = let t = eq-eqb n x e in grind arith
stands (x ∷ xs) (suc j) n l e = let t = stands xs j n (omega arith) e in grind arith

twice : (xs : List ℕ) (i j : ℕ) → i < j → j < length xs → get_or xs i 0 ≡ get_or xs j 0 → distinct xs ≡ false
unfolding distinct
twice [] i j l m e = absurd (omega arith)
twice (x ∷ xs) i zero l m e = absurd (omega arith)
twice (x ∷ xs) zero (suc j) l m e = let t = stands xs j x (omega arith) e in grind arith
twice (x ∷ xs) (suc i) (suc j) l m e = let t = twice xs i j (omega arith) (omega arith) e in grind arith

pub differ_sorted : (xs : List ℕ) → IsNonDecreasing xs → (r : Bool) → IsAllAdjacentAnswer (λ x y b. b ≡ ltb x y) xs r → r ≡ distinct xs
differ_sorted xs up true h =
    sym (rises xs (λ i j l m. let p = ltb-true (get_or xs i 0) (get_or xs (i + 1) 0) (sym (h i 0 (omega arith))) in let q = up (i + 1) j 0 (omega arith) m in omega arith))
differ_sorted xs up false h =
    let k = h.0 in
    let l : k + 1 < length xs = h.1 in
    let p = ltb-false (get_or xs k 0) (get_or xs (k + 1) 0) (sym (h.2 0)) in
    let q = up k (k + 1) 0 (omega arith) l in
    sym (twice xs k (k + 1) (omega arith) l (omega arith))
