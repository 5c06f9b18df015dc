-- Numbers in a row of bytes, the low byte first.
use Rattle.std.specs.Prelude.{ℕ, ◌+◌, ◌*◌, Bool, List, [], ◌∷◌, ◌==◌, slice_index}
use Rattle.std.specs.List.{list_all}

-- Whether each byte is 00.
abbrev pub all_zero : List ℕ → Bool
all_zero = list_all (λ x. x == 0)

-- The number in the two bytes from i on, and in the four.
abbrev pub u16_at : List ℕ → ℕ → ℕ
u16_at p i = slice_index p i + slice_index p (i + 1) * 256

abbrev pub u32_at : List ℕ → ℕ → ℕ
u32_at p i = slice_index p i + slice_index p (i + 1) * 256 + slice_index p (i + 2) * 65536 + slice_index p (i + 3) * 16777216

-- The numbers of four bytes each, one after the other; up to three bytes at the end are left over.
abbrev pub words : List ℕ → List ℕ
words [] = []
words (a ∷ []) = []
words (a ∷ b ∷ []) = []
words (a ∷ b ∷ c ∷ []) = []
words (a ∷ b ∷ c ∷ d ∷ rest) = (a + b * 256 + c * 65536 + d * 16777216) ∷ words rest
