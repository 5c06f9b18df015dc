-- The bytes of a page, from what it means.
use Rattle.std.specs.Prelude.{ℕ, ◌+◌, ◌-◌, ◌*◌, ◌/◌, ◌%◌, List, [], ◌∷◌, ◌++◌, map, length, replicate}
use Rattle.std.specs.Borrow.{Bor}
use Rattle.std.specs.List.{flat_map}

-- A number in two bytes, and in four, the low byte first.
abbrev pub le16 : ℕ → List ℕ
le16 n = n % 256 ∷ n / 256 % 256 ∷ []

abbrev pub le32 : ℕ → List ℕ
le32 n = n % 256 ∷ n / 256 % 256 ∷ n / 65536 % 256 ∷ n / 16777216 % 256 ∷ []

abbrev pub tag_bytes : ℕ → ℕ → ℕ → List ℕ
tag_bytes kind sector birth = kind ∷ 0 ∷ (le16 sector ++ (le32 birth ++ replicate 8 0))

-- A data page holds 512 bytes that it is given.
abbrev pub data_page : ℕ → ℕ → List ℕ → List ℕ
data_page sector birth bytes = bytes ++ tag_bytes 1 sector birth

abbrev pub deletion_page : ℕ → ℕ → List ℕ
deletion_page sector birth = replicate 512 0 ++ tag_bytes 2 sector birth

-- A pair for each part, the first of which starts at `at`.
abbrev pub pairs_from : ℕ → List (List ℕ) → List ℕ
pairs_from at [] = []
pairs_from at (x ∷ xs) = le16 at ++ (le16 (length x) ++ pairs_from (at + length x) xs)

-- All parts, one after the other.
abbrev pub whole : List (List ℕ) → List ℕ
whole = flat_map (λ x. x)

-- Bytes with 00 after them, n in all.
abbrev pub padded : ℕ → List ℕ → List ℕ
padded n xs = xs ++ replicate (n - length xs) 0

-- The data of a register with these parts: the parts start where their pairs end.
abbrev pub register_data : List (List ℕ) → List ℕ
register_data parts = padded 512 (pairs_from (4 * length parts) parts ++ whole parts)

abbrev pub register_page : ℕ → List ℕ → List ℕ → List ℕ
register_page birth held label = register_data (flat_map le32 held ∷ label ∷ []) ++ tag_bytes 3 65535 birth

-- What lent parts hold.
abbrev pub contents : List (Bor (List ℕ)) → List (List ℕ)
contents = map (λ x. x.now)
