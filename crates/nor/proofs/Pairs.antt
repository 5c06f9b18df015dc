-- A loop over the pairs of bytes of a page.
use Rattle.std.proofs.Common.{◌≡◌, ℕ, ◌+◌, ◌-◌, ◌*◌, ◌<◌, ◌≤◌, List, ◌++◌, length, get_or, drop, set, sym, ap, ◌∙◌, add-one, arith, length-append, length-drop}
use lib.Bits.{bit_and}
use Rattle.std.proofs.lemmas.List.{drop-drop, drop_at, get_or_append_left, get_or-drop}
use Rattle.nor.specs.Image.{word_at}
use Rattle.nor.specs.Program.{pair_of, and_into, anded}

-- The next pair, of n before it.
module _ (bytes : List ℕ) (n : ℕ) (pair rest : List ℕ) (cut : drop (2 * n) bytes ≡ pair ++ rest) (two : length pair ≡ 2) where
  pub room : 2 * n + 2 ≤ length bytes
  room =
      let l : length bytes - 2 * n ≡ length pair + length rest = sym (length-drop (2 * n) bytes) ∙ ap length cut ∙ length-append pair rest in
      omega arith

  pub left : rest ≡ drop (2 * (n + 1)) bytes
  left =
      let e : 2 * n + 2 ≡ 2 * (n + 1) = omega arith in
      sym (drop_at pair rest 2 two) ∙ ap (drop 2) (sym cut) ∙ drop-drop 2 (2 * n) bytes ∙ ap (λ k. drop k bytes) e

  byte : (k : ℕ) → k < 2 → get_or pair k 0 ≡ get_or bytes (2 * n + k) 0
  byte k h = sym (get_or_append_left pair rest 0 k (omega arith)) ∙ ap (λ z. get_or z k 0) (sym cut) ∙ get_or-drop (2 * n) bytes k 0

  pub next_pair : (ws image : List ℕ) (b p w v : ℕ) → image ≡ anded ws b p bytes n → w ≡ word_at b p n → v ≡ get_or pair 0 0 + get_or pair 1 0 * 256 → set image w (bit_and (get_or image w 0) v) ≡ anded ws b p bytes (n + 1)
  next_pair ws image b p w v e f g =
      let first : get_or pair 0 0 ≡ get_or bytes (2 * n) 0 = byte 0 (omega arith) ∙ ap (λ k. get_or bytes k 0) (omega arith) in
      let is : v ≡ pair_of bytes n = omega (arith, first, byte 1 (omega arith)) in
      ap (λ z. set image z (bit_and (get_or image z 0) v)) f ∙ ap (and_into image (word_at b p n)) is ∙ ap (λ z. and_into z (word_at b p n) (pair_of bytes n)) e ∙ ap (anded ws b p bytes) (sym (add-one n))
