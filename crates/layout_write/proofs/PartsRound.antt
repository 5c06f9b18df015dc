-- Parts that are written are read again, and parts that are read are written again, whatever their kinds.
use Rattle.std.proofs.Common.{◌≡◌, ℕ, ◌+◌, ◌*◌, ◌/◌, ◌%◌, ◌<◌, ◌≤◌, true, cond, ◌&&◌, eqb, List, [], ◌∷◌, ◌++◌, length, get_or, take, drop, Some, None, sym, refl, ap, ◌∙◌, arith}
use Rattle.std.proofs.lemmas.List.{get_or-drop, drop-drop, drop_at, take_at, take-append-drop, append_assoc, length-append, length-drop, length-take-le}
use Rattle.std.proofs.lemmas.Bool.{eq-eqb}
use Rattle.layout.specs.Bytes.{u16_at}
use Rattle.layout.specs.Parts.{fits, parts_end}
use Rattle.layout.specs.declared.parts.PartKind.{PartKind}
use Rattle.layout.proofs.Words.{drop_four}
use Rattle.layout.proofs.Pairs.{first_pair}
use Rattle.layout_write.specs.Written.{le16, pairs_from, whole}
use Rattle.layout_write.proofs.Digits.{le16_read, le16_again}

-- the parts that the pairs from i on give
abbrev pub parts_from : List PartKind → List ℕ → ℕ → List (List ℕ)
parts_from [] p i = []
parts_from (k ∷ ks) p i = take (u16_at p (i + 2)) (drop (u16_at p i) p) ∷ parts_from ks p (i + 4)

-- each part has a length that its kind can have
abbrev pub AllFit : List PartKind → List (List ℕ) → Type 0
AllFit [] [] = Unit {0}
AllFit [] (x ∷ xs) = ⊥
AllFit (k ∷ ks) [] = ⊥
AllFit (k ∷ ks) (x ∷ xs) = (fits k (length x) ≡ true) × AllFit ks xs

front16 : (p : List ℕ) (i n : ℕ) (rest : List ℕ) → n < 65536 → drop i p ≡ le16 n ++ rest → (u16_at p i ≡ n) × (drop (i + 2) p ≡ rest)
front16 p i n rest h e =
    let z : i ≡ i + 0 = omega arith in
    let a : get_or p i 0 ≡ n % 256 = ap (λ j. get_or p j 0) z ∙ sym (get_or-drop i p 0 0) ∙ ap (λ l. get_or l 0 0) e in
    let b : get_or p (i + 1) 0 ≡ n / 256 % 256 = sym (get_or-drop i p 1 0) ∙ ap (λ l. get_or l 1 0) e in
    ((λ j. a j + b j * 256) ∙ le16_read n h, sym (drop-drop 2 i p) ∙ ap (drop 2) e)

pub parts_read : (ks : List PartKind) (xs : List (List ℕ)) (p : List ℕ) (i at : ℕ) (m m' : List ℕ) → AllFit ks xs → at + length (whole xs) < 65536 → drop i p ≡ pairs_from at xs ++ m → drop at p ≡ whole xs ++ m' → (parts_end ks p i at ≡ Some (at + length (whole xs))) × (parts_from ks p i ≡ xs)
parts_read [] [] p i at m m' fit small e e' = let z : at ≡ at + 0 = omega arith in (ap Some z, refl)
parts_read [] (x ∷ xs) p i at m m' fit small e e' = absurd fit
parts_read (k ∷ ks) [] p i at m m' fit small e e' = absurd fit
parts_read (k ∷ ks) (x ∷ xs) p i at m m' fit small e e' =
    let l = length-append x (whole xs) in
    let o = front16 p i at (le16 (length x) ++ (pairs_from (at + length x) xs ++ m)) (omega arith) e in
    let n = front16 p (i + 2) (length x) (pairs_from (at + length x) xs ++ m) (omega arith) o.1 in
    let z : i + 4 ≡ i + 2 + 2 = omega arith in
    let here = e' ∙ append_assoc x (whole xs) m' in
    let next : drop (at + length x) p ≡ whole xs ++ m' = sym (drop-drop (length x) at p) ∙ ap (drop (length x)) here ∙ drop_at x (whole xs ++ m') (length x) refl in
    let r = parts_read ks xs p (i + 4) (at + length x) m m' fit.1 (omega arith) (ap (λ j. drop j p) z ∙ n.1) next in
    let s : at + length x + length (whole xs) ≡ at + length (x ++ whole xs) = omega arith in
    let part : take (u16_at p (i + 2)) (drop (u16_at p i) p) ≡ x = (λ j. take (n.0 j) (drop (o.0 j) p)) ∙ ap (take (length x)) here ∙ take_at x (whole xs ++ m') (length x) refl in (
      (λ j. cond (eqb (o.0 j) at && fits k (n.0 j)) (parts_end ks p (i + 4) (at + n.0 j)) None)
          ∙ (λ j. cond (eq-eqb at at refl j && fit.0 j) (parts_end ks p (i + 4) (at + length x)) None)
          ∙ r.0
          ∙ ap Some s,
      (λ j. part j ∷ r.1 j),
    )

-- ys are the parts that are read
pub record Again (ks : List PartKind) (ys : List (List ℕ)) (p : List ℕ) (i at e : ℕ) : Type 0 where
  pub pairs : drop i p ≡ pairs_from at ys ++ drop (i + 4 * length ks) p
  pub parts : drop at p ≡ whole ys ++ drop e p
  pub end : at + length (whole ys) ≡ e

pub parts_again : (ks : List PartKind) (p : List ℕ) (i at e : ℕ) → ((j : ℕ) → get_or p j 0 < 256) → i + 4 * length ks ≤ length p → e ≤ length p → parts_end ks p i at ≡ Some e → Again ks (parts_from ks p i) p i at e
parts_again [] p i at e by hi he h =
    let z : i ≡ i + 0 = omega arith in
    let s : at ≡ e = cc in
    record { pairs = ap (λ n. drop n p) z; parts = ap (λ n. drop n p) s; end = omega arith }
parts_again (k ∷ ks) p i at e by hi he h =
    let f = first_pair k ks p i at e h in
    let n = u16_at p (i + 2) in
    let o = f.starts in
    let r = parts_again ks p (i + 4) (at + n) e by (omega arith) he f.rest in
    let ys = parts_from ks p (i + 4) in
    let x = take n (drop (u16_at p i) p) in
    let lx : length x ≡ n = ap (λ m. length (take n (drop m p))) o ∙ length-take-le n (drop at p) (omega (arith, r.end, length-drop at p)) in
    let z : i + 3 ≡ i + 2 + 1 = omega arith in
    let w : i + 4 + 4 * length ks ≡ i + 4 * length (k ∷ ks) = omega arith in
    let a = le16_again (get_or p i 0) (get_or p (i + 1) 0) (by i) (by (i + 1)) in
    let b = le16_again (get_or p (i + 2) 0) (get_or p (i + 2 + 1) 0) (by (i + 2)) (by (i + 2 + 1)) in
    record {
      pairs =
          drop_four p i (omega arith)
          ∙ (λ j. get_or p i 0 ∷ get_or p (i + 1) 0 ∷ get_or p (i + 2) 0 ∷ get_or p (z j) 0 ∷ drop (i + 4) p)
          ∙ (λ j. sym a j ++ (sym b j ++ r.pairs j))
          ∙ (λ j. le16 (o j) ++ (le16 (sym lx j) ++ (pairs_from (at + sym lx j) ys ++ drop (w j) p)));
      parts =
          sym (take-append-drop n (drop at p))
          ∙ (λ j. take n (drop (sym o j) p) ++ (drop-drop n at p ∙ r.parts) j)
          ∙ sym (append_assoc x (whole ys) (drop e p));
      end = omega (arith, r.end, length-append x (whole ys));
    }
