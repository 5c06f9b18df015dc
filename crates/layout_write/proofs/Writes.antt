-- What the writers leave.
use Rattle.std.proofs.Common.{◌≡◌, ℕ, zero, suc, ◌+◌, ◌-◌, ◌*◌, ◌<◌, ◌≤◌, List, [], ◌∷◌, ◌++◌, length, get_or, take, drop, replicate, sym, refl, ap, ◌∙◌, arith, Bor}
use borrow.Rule.Slice.PartMut.{put_mid, post_of}
use lib.Seq.{paste}
use Rattle.std.specs.List.{flat_map}
use Rattle.std.proofs.lemmas.List.{take_at, drop_at, drop_all, append-nil, length-drop, length-take-le, length-map, take_more, get_or-map, flat_map_more, length-append, drop-replicate}
use Rattle.std.proofs.lemmas.List.Edits.{paste-paste, paste_all}
use Rattle.layout_write.specs.Written.{le16, le32, pairs_from, whole, padded, register_data, contents}

-- the data and then the tag are written over all of a page
pub both_written : (d t page : List ℕ) → length d ≡ 512 → length page ≡ 528 → put_mid 512 16 (d ++ post_of 0 512 page) t ≡ d ++ t
both_written d t page ld lp =
    let front = take_at d (drop 512 page) 512 ld in
    let back = drop_at d (drop 512 page) 512 ld in
    let none = drop_all 16 (drop 512 page) (omega (arith, length-drop 512 page)) in
    let nil = append-nil t in
    cc

-- one more element of a list that is joined
pub joined_take : {X : Type 0} (f : X → List ℕ) (xs : List X) (i : ℕ) (d : X) → i < length xs → flat_map f (take (i + 1) xs) ≡ flat_map f (take i xs) ++ f (get_or xs i d)
joined_take f xs i d h = ap (flat_map f) (take_more xs i d h) ∙ sym (flat_map_more f [] (take i xs) (get_or xs i d))

pub length_fours : (ns : List ℕ) → length (flat_map le32 ns) ≡ 4 * length ns
length_fours [] = refl
length_fours (n ∷ ns) = omega (arith, length_fours ns)

-- a lent part, at the default that the checker reads past the end with
abbrev pub no_part : Bor (List ℕ)
no_part = record { ref_ptr = (0, 0); now = [] }

pub lent : (rs : List (Bor (List ℕ))) (i : ℕ) → i < length rs → (get_or rs i no_part).now ≡ get_or (contents rs) i []
lent rs i h = sym (get_or-map (λ r. r.now) rs i no_part [] h)

pub length_contents : (rs : List (Bor (List ℕ))) → length (contents rs) ≡ length rs
length_contents rs = length-map rs (λ r. r.now)

whole_front : (xs : List (List ℕ)) (i : ℕ) → length (whole (take i xs)) ≤ length (whole xs)
whole_front xs zero = omega arith
whole_front [] (suc i) = omega arith
whole_front (x ∷ xs) (suc i) = omega (arith, whole_front xs i, length-append x (whole (take i xs)), length-append x (whole xs))

pairs_push : (at : ℕ) (xs : List (List ℕ)) (x : List ℕ) → pairs_from at (xs ++ x ∷ []) ≡ pairs_from at xs ++ (le16 (at + length (whole xs)) ++ le16 (length x))
pairs_push at [] x = let e : at ≡ at + 0 = omega arith in ap (λ n. le16 n ++ le16 (length x)) e
pairs_push at (y ∷ xs) x =
    let e : at + length y + length (whole xs) ≡ at + length (y ++ whole xs) = omega (arith, length-append y (whole xs)) in
    ap (λ r. le16 at ++ (le16 (length y) ++ r)) (pairs_push (at + length y) xs x)
    ∙ ap (λ n. le16 at ++ (le16 (length y) ++ (pairs_from (at + length y) xs ++ (le16 n ++ le16 (length x))))) e

pub length_pairs : (at : ℕ) (xs : List (List ℕ)) → length (pairs_from at xs) ≡ 4 * length xs
length_pairs at [] = refl
length_pairs at (x ∷ xs) = omega (arith, length_pairs (at + length x) xs)

-- one more part
module _ (xs : List (List ℕ)) (i : ℕ) (lt : i < length xs) where
  pub whole_more : length (whole (take (i + 1) xs)) ≡ length (whole (take i xs)) + length (get_or xs i [])
  whole_more = ap length (joined_take (λ x. x) xs i [] lt) ∙ length-append (whole (take i xs)) (get_or xs i [])

  pub size_fits_lem : length (whole (take i xs)) + length (get_or xs i []) ≤ length (whole xs)
  size_fits_lem = omega (arith, whole_more, whole_front xs (i + 1))

  pub pairs_more : (d : List ℕ) (start : ℕ) → paste (paste d 0 (pairs_from start (take i xs)) (4 * i)) (4 * i) (le16 (start + length (whole (take i xs))) ++ le16 (length (get_or xs i []))) 4 ≡ paste d 0 (pairs_from start (take (i + 1) xs)) (4 * (i + 1))
  pairs_more d start =
      let s = pairs_from start (take i xs) in
      let t = le16 (start + length (whole (take i xs))) ++ le16 (length (get_or xs i [])) in
      let l : 4 * i ≡ length s = omega (arith, length_pairs start (take i xs), length-take-le i xs (omega arith)) in
      let z : 4 * i ≡ 0 + 4 * i = omega arith in
      let e : 4 * i + 4 ≡ 4 * (i + 1) = omega arith in
      let p : pairs_from start (take (i + 1) xs) ≡ s ++ t = ap (pairs_from start) (take_more xs i [] lt) ∙ pairs_push start (take i xs) (get_or xs i []) in
      ap (λ n. paste (paste d 0 s (4 * i)) n t 4) z
      ∙ paste-paste d 0 s t (4 * i) 4 l refl (omega arith)
      ∙ (λ k. paste d 0 (sym p k) (e k))

  pub parts_more : (d : List ℕ) (start : ℕ) → start ≤ length d → paste (paste d start (whole (take i xs)) (length (whole (take i xs)))) (start + length (whole (take i xs))) (get_or xs i []) (length (get_or xs i [])) ≡ paste d start (whole (take (i + 1) xs)) (length (whole (take (i + 1) xs)))
  parts_more d start h =
      paste-paste d start (whole (take i xs)) (get_or xs i []) (length (whole (take i xs))) (length (get_or xs i [])) refl refl h
      ∙ (λ k. paste d start (sym (joined_take (λ x. x) xs i [] lt) k) (sym whole_more k))

-- two rows, one after the other, over m bytes 00
two_written : (m : ℕ) (a t : List ℕ) (i k : ℕ) → i ≡ length a → k ≡ length t → paste (paste (replicate m 0) 0 a i) i t k ≡ padded m (a ++ t)
two_written m a t i k la lt =
    let z : List ℕ = replicate m 0 in
    let e : i ≡ 0 + i = omega arith in
    let l : i + k ≡ length (a ++ t) = omega (arith, length-append a t) in
    let r : m - (0 + (i + k)) ≡ m - length (a ++ t) = omega arith in
    (λ p. paste (paste z 0 a i) (e p) t k)
    ∙ paste-paste z 0 a t i k la lt (omega arith)
    ∙ paste_all z 0 (a ++ t) (i + k) l
    ∙ (λ p. (a ++ t) ++ drop-replicate (0 + (i + k)) m 0 p)
    ∙ (λ p. (a ++ t) ++ replicate (r p) 0)

-- pairs and then parts
pub register_written : (out : List ℕ) (xs : List (List ℕ)) (n : ℕ) → n ≡ length xs → out ≡ replicate 512 0 → paste (paste out 0 (pairs_from (4 * n) xs) (4 * n)) (4 * n) (whole xs) (length (whole xs)) ≡ register_data xs
register_written out xs n ln eo =
    (λ p. paste (paste (eo p) 0 (pairs_from (4 * ln p) xs) (4 * ln p)) (4 * ln p) (whole xs) (length (whole xs)))
    ∙ two_written 512 (pairs_from (4 * length xs) xs) (whole xs) (4 * length xs) (length (whole xs)) (sym (length_pairs (4 * length xs) xs)) refl
