-- Numbers in two and in four bytes.
use Rattle.std.proofs.Common.{◌≡◌, ℕ, ◌+◌, ◌*◌, ◌/◌, ◌%◌, ◌<◌, [], ◌∷◌, sym, ap, ◌∙◌, arith}
use Rattle.std.proofs.lemmas.Nat.{shr-shr, div-add-mod'}
use Rattle.layout_write.specs.Written.{le16, le32}

-- written and read again
pub le16_read : (n : ℕ) → n < 65536 → n % 256 + n / 256 % 256 * 256 ≡ n
le16_read n h = omega arith

four_digits : (n q₁ q₂ q₃ r₀ r₁ r₂ r₃ : ℕ) → q₁ * 256 + r₀ ≡ n → q₂ * 256 + r₁ ≡ q₁ → q₃ * 256 + r₂ ≡ q₂ → r₃ ≡ q₃ → r₀ + r₁ * 256 + r₂ * 65536 + r₃ * 16777216 ≡ n
four_digits n q₁ q₂ q₃ r₀ r₁ r₂ r₃ a b c d = omega arith

pub le32_read : (n : ℕ) → n < 4294967296 → n % 256 + n / 256 % 256 * 256 + n / 65536 % 256 * 65536 + n / 16777216 % 256 * 16777216 ≡ n
le32_read n h =
    let f : n / 256 / 256 ≡ n / 65536 = shr-shr n 8 8 in
    let g : n / 65536 / 256 ≡ n / 16777216 = shr-shr n 16 8 in
    let small : n / 16777216 < 256 = omega arith in
    four_digits n (n / 256) (n / 65536) (n / 16777216) _ _ _ _
    (div-add-mod' n 256)
    (ap (λ q. q * 256 + n / 256 % 256) (sym f) ∙ div-add-mod' (n / 256) 256)
    (ap (λ q. q * 256 + n / 65536 % 256) (sym g) ∙ div-add-mod' (n / 65536) 256)
    (omega arith)

-- read and written again
low : (a b : ℕ) → a < 256 → (a + b * 256) % 256 ≡ a
low a b h = omega arith

high : (a b : ℕ) → a < 256 → b < 256 → (a + b * 256) / 256 % 256 ≡ b
high a b h k = omega arith

pub le16_again : (a b : ℕ) → a < 256 → b < 256 → le16 (a + b * 256) ≡ a ∷ b ∷ []
le16_again a b h k = (λ i. low a b h i ∷ high a b h k i ∷ [])

pub le32_again : (a b c d : ℕ) → a < 256 → b < 256 → c < 256 → d < 256 → le32 (a + b * 256 + c * 65536 + d * 16777216) ≡ a ∷ b ∷ c ∷ d ∷ []
le32_again a b c d ha hb hc hd =
    let n = a + b * 256 + c * 65536 + d * 16777216 in
    let e0 : n % 256 ≡ a = omega arith in
    let q1 : n / 256 ≡ b + (c + d * 256) * 256 = omega arith in
    let q2 : n / 65536 ≡ c + d * 256 = omega arith in
    let q3 : n / 16777216 ≡ d = omega arith in
    let e1 : n / 256 % 256 ≡ b = ap (λ x. x % 256) q1 ∙ low b (c + d * 256) hb in
    let e2 : n / 65536 % 256 ≡ c = ap (λ x. x % 256) q2 ∙ low c d hc in
    let r3 : d % 256 ≡ d = omega arith in
    let e3 : n / 16777216 % 256 ≡ d = ap (λ x. x % 256) q3 ∙ r3 in
    (λ i. e0 i ∷ e1 i ∷ e2 i ∷ e3 i ∷ [])
