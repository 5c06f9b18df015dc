-- Where the pages of a block stand once they were copied.
use Rattle.std.proofs.Common.{◌≡◌, ℕ, suc, ◌+◌, ◌-◌, ◌*◌, ◌<◌, ◌≤◌, Bool, true, false, ◌⊎◌, sym, refl, ◌∙◌, inl, inr, mul-le-mul_right, suc-mul, arith}
use Rattle.std.proofs.lemmas.Bool.{cases_lt, cases_order, le-leb, lt-leb, lt-ltb, le-ltb}
use Rattle.moving.specs.Moves.{Outside, is_in, origin, shifted}

-- Two blocks have no page in common.
pub blocks_apart : (per a b : ℕ) → (a ≡ b → ⊥) → (a * per + per ≤ b * per) ⊎ (b * per + per ≤ a * per)
blocks_apart per a b ne = elim (cases_order a b) [
  | inl e ↦ absurd (ne e)
  | inr (inl h) ↦ inl (omega (arith, mul-le-mul_right {m = suc a} {n = b} per h, suc-mul a per))
  | inr (inr h) ↦ inr (omega (arith, mul-le-mul_right {m = suc b} {n = a} per h, suc-mul b per))
]

-- The pages of a block of the chip are pages of the chip.
pub block_inside : (per blocks b n : ℕ) → n ≡ blocks * per → b < blocks → b * per + per ≤ n
block_inside per blocks b n e h = omega (arith, mul-le-mul_right {m = suc b} {n = blocks} per h, suc-mul b per)

abbrev pub Inside : ℕ → ℕ → ℕ → Type 0
Inside low n k = (i : ℕ) × (i < n) × (k ≡ low + i)

module _ (low n k : ℕ) where
  pub in_or_out : Inside low n k ⊎ Outside low n k
  in_or_out = elim (cases_lt k low) [
    | inl a ↦ inr (inl a)
    | inr a ↦ elim (cases_lt k (low + n)) [ inl b ↦ inl (k - low, omega arith, omega arith) | inr b ↦ inr (inr b) ]
  ]

  pub is_out : Outside low n k → is_in low n k ≡ false
  is_out (inl h) = rw (lt-leb low k h) refl
  is_out (inr h) = rw (le-ltb k (low + n) h) (grind arith)

  pub is_in_lem : low ≤ k → k < low + n → is_in low n k ≡ true
  is_in_lem h l = rw (le-leb low k h, lt-ltb k (low + n) l) refl

module _ (stay : ℕ → Bool) (from to n : ℕ) where
  -- A page that none was copied to.
  pub origin_out : (k : ℕ) → Outside to n k → origin stay from to n k ≡ k
  origin_out k h = rw (is_out to n k h) refl

  pub origin_copied : (i : ℕ) → i < n → stay (from + i) ≡ true → origin stay from to n (to + i) ≡ from + i
  origin_copied i h t =
      let e : to + i - to ≡ i = omega arith in
      rw (is_in_lem to n (to + i) (omega arith) (omega arith), e, t) refl

  pub origin_left : (i : ℕ) → i < n → stay (from + i) ≡ false → origin stay from to n (to + i) ≡ to + i
  origin_left i h t =
      let e : to + i - to ≡ i = omega arith in
      rw (is_in_lem to n (to + i) (omega arith) (omega arith), e, t) refl

-- One more place.
pub is_in_more : (low i k : ℕ) → (k ≡ low + i → ⊥) → is_in low (i + 1) k ≡ is_in low i k
is_in_more low i k ne = elim (in_or_out low i k) [
  | inl x ↦ let a = x.1 in let e = x.2 in is_in_lem low (i + 1) k (omega arith) (omega arith) ∙ sym (is_in_lem low i k (omega arith) (omega arith))
  | inr (inl a) ↦ is_out low (i + 1) k (inl a) ∙ sym (is_out low i k (inl a))
  | inr (inr a) ↦ is_out low (i + 1) k (inr (omega arith)) ∙ sym (is_out low i k (inr a))
]

module _ (stay : ℕ → Bool) (from to i : ℕ) where
  pub origin_more : (k : ℕ) → (k ≡ to + i → ⊥) → origin stay from to (i + 1) k ≡ origin stay from to i k
  origin_more k ne = rw (is_in_more to i k ne) refl

pub shifted_more : (from to i m : ℕ) → (m ≡ from + i → ⊥) → shifted from to (i + 1) m ≡ shifted from to i m
shifted_more from to i m ne = rw (is_in_more from i m ne) refl

pub shifted_here : (from to i : ℕ) → shifted from to (i + 1) (from + i) ≡ to + i
shifted_here from to i =
    let e : from + i - from ≡ i = omega arith in
    rw (is_in_lem from (i + 1) (from + i) (omega arith) (omega arith), e) refl

pub shifted_in : (from to n i : ℕ) → i < n → shifted from to n (from + i) ≡ to + i
shifted_in from to n i h =
    let e : from + i - from ≡ i = omega arith in
    rw (is_in_lem from n (from + i) (omega arith) (omega arith), e) refl

pub shifted_out : (from to n m : ℕ) → Outside from n m → shifted from to n m ≡ m
shifted_out from to n m h = rw (is_out from n m h) refl
