-- Where the pairs of bytes of a page lie, and that no two of them share a word.
use Rattle.std.proofs.Common.{◌≡◌, ℕ, ◌+◌, ◌-◌, ◌*◌, ◌/◌, ◌%◌, ◌<◌, ◌≤◌, cond, eqb, List, get_or, sym, refl, ap, ◌∙◌, ⊎_elim, arith}
use Rattle.std.proofs.lemmas.Bool.{lt-ltb, le-ltb, cases_lt}
use Rattle.std.proofs.lemmas.Nat.{div-mul-add, mod-mul-add}
use Rattle.nor.specs.Image.{offset_of, byte_at, word_at}

pub offset_data : (p j : ℕ) → j < 512 → offset_of p j ≡ p * 512 + j
offset_data p j h = rw (lt-ltb j 512 h) refl

pub offset_tag : (p j : ℕ) → 512 ≤ j → offset_of p j ≡ 4096 + p * 16 + (j - 512)
offset_tag p j h = rw (le-ltb j 512 h) refl

-- A word of the data areas, or of the tags.
pub word_data : (b p i : ℕ) → i < 256 → word_at b p i ≡ b * 2112 + (p * 256 + i)
word_data b p i h = let e = offset_data p (2 * i) (omega arith) in omega (arith, e)

pub word_tag : (b p i : ℕ) → 256 ≤ i → word_at b p i ≡ b * 2112 + (2048 + p * 8 + (i - 256))
word_tag b p i h = let e = offset_tag p (2 * i) (omega arith) in omega (arith, e)

pub word_below : (b p i n : ℕ) → b < n → p < 8 → i < 264 → word_at b p i < n * 2112
word_below b p i n hb hp hi =
    ⊎_elim (λ h. omega (arith, word_data b p i h)) (λ h. omega (arith, word_tag b p i h)) (cases_lt i 256)

-- The row and the column of a place in a table whose rows are w wide.
same_place : (w a r c s : ℕ) → r < w → s < w → a * w + r ≡ c * w + s → (a ≡ c) × (r ≡ s)
same_place w a r c s hr hs e =
    (sym (div-mul-add a w r hr) ∙ ap (λ n. n / w) e ∙ div-mul-add c w s hs, sym (mod-mul-add a w r hr) ∙ ap (λ n. n % w) e ∙ mod-mul-add c w s hs)

-- Two pairs of bytes that share a word are one pair.
pub word_apart : (b p i c q k : ℕ) → p < 8 → i < 264 → q < 8 → k < 264 → word_at b p i ≡ word_at c q k → (b ≡ c) × (p ≡ q) × (i ≡ k)
word_apart b p i c q k hp hi hq hk e =
    ⊎_elim (λ h. ⊎_elim (λ g. areas h g) (λ g. absurd (mixed b p i c q k hp hq hk h g e)) (cases_lt k 256)) (λ h. ⊎_elim (λ g. absurd (mixed c q k b p i hq hp hi g h (sym e))) (λ g. tags h g) (cases_lt k 256)) (cases_lt i 256)
  where
    areas : i < 256 → k < 256 → (b ≡ c) × (p ≡ q) × (i ≡ k)
    areas h g =
        let s = same_place 2112 b (p * 256 + i) c (q * 256 + k) (omega arith) (omega arith) (sym (word_data b p i h) ∙ e ∙ word_data c q k g) in
        let t = same_place 256 p i q k h g s.1 in
        (s.0, t.0, t.1)

    tags : 256 ≤ i → 256 ≤ k → (b ≡ c) × (p ≡ q) × (i ≡ k)
    tags h g =
        let s = same_place 2112 b (2048 + p * 8 + (i - 256)) c (2048 + q * 8 + (k - 256)) (omega arith) (omega arith) (sym (word_tag b p i h) ∙ e ∙ word_tag c q k g) in
        let t = same_place 8 p (i - 256) q (k - 256) (omega arith) (omega arith) (omega (arith, s.1)) in
        (s.0, t.0, omega (arith, t.1))

    mixed : (b p i c q k : ℕ) → p < 8 → q < 8 → k < 264 → i < 256 → 256 ≤ k → word_at b p i ≡ word_at c q k → ⊥
    mixed b p i c q k hp hq hk h g e =
        let s = same_place 2112 b (p * 256 + i) c (2048 + q * 8 + (k - 256)) (omega arith) (omega arith) (sym (word_data b p i h) ∙ e ∙ word_tag c q k g) in
        omega (arith, s.1)

-- A byte of a page, by the word that holds its pair.
pub byte_of_pair : (ws : List ℕ) (b p j : ℕ) → byte_at ws (b * 4224 + offset_of p j) ≡ cond (eqb (j % 2) 0) (get_or ws (word_at b p (j / 2)) 0 % 256) (get_or ws (word_at b p (j / 2)) 0 / 256 % 256)
byte_of_pair ws b p j =
    let places : (offset_of p j % 2 ≡ j % 2) × (offset_of p j / 2 ≡ offset_of p (2 * (j / 2)) / 2) =
    ⊎_elim (λ h. let e = offset_data p j h in let f = offset_data p (2 * (j / 2)) (omega arith) in (omega (arith, e), omega (arith, e, f))) (λ h. let e = offset_tag p j h in let f = offset_tag p (2 * (j / 2)) (omega arith) in (omega (arith, e), omega (arith, e, f))) (cases_lt j 512) in
    let odd : (b * 4224 + offset_of p j) % 2 ≡ j % 2 = omega (arith, places.0) in
    let at : (b * 4224 + offset_of p j) / 2 ≡ word_at b p (j / 2) = omega (arith, places.1) in
    ap (λ r. cond (eqb r 0) (get_or ws ((b * 4224 + offset_of p j) / 2) 0 % 256) (get_or ws ((b * 4224 + offset_of p j) / 2) 0 / 256 % 256)) odd ∙ ap (λ w. cond (eqb (j % 2) 0) (get_or ws w 0 % 256) (get_or ws w 0 / 256 % 256)) at
