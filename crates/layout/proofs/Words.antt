-- Numbers of four bytes, one after the other.
use Rattle.std.proofs.Common.{◌≡◌, ℕ, ◌+◌, ◌/◌, ◌≤◌, List, [], ◌∷◌, length, get_or, drop, refl, arith}
use Rattle.std.proofs.lemmas.List.{drop_more}
use Rattle.layout.specs.Bytes.{words}

pub drop_four : (xs : List ℕ) (i : ℕ) → i + 4 ≤ length xs → drop i xs ≡ get_or xs i 0 ∷ get_or xs (i + 1) 0 ∷ get_or xs (i + 2) 0 ∷ get_or xs (i + 3) 0 ∷ drop (i + 4) xs
drop_four xs i h =
    let d0 = drop_more xs i 0 (omega arith) in
    let d1 = drop_more xs (i + 1) 0 (omega arith) in
    let e1 : i + 1 + 1 ≡ i + 2 = omega arith in
    let d2 = drop_more xs (i + 2) 0 (omega arith) in
    let e2 : i + 2 + 1 ≡ i + 3 = omega arith in
    let d3 = drop_more xs (i + 3) 0 (omega arith) in
    let e3 : i + 3 + 1 ≡ i + 4 = omega arith in
    cc

pub length_words : (xs : List ℕ) → length (words xs) ≡ length xs / 4
length_words [] = refl
length_words (a ∷ []) = refl
length_words (a ∷ b ∷ []) = refl
length_words (a ∷ b ∷ c ∷ []) = refl
length_words (a ∷ b ∷ c ∷ d ∷ xs) = omega (arith, length_words xs)
