-- The pages that an image of 16-bit words holds, the low byte of a word first.
use Rattle.std.specs.Prelude.{ℕ, ◌+◌, ◌-◌, ◌*◌, ◌/◌, ◌%◌, min, cond, List, map, length, ◌==◌, nat_lt, slice_index}
use Rattle.std.specs.List.{range_with_len}
use Rattle.chip.specs.Pages.{Page}

-- Where byte j of the page at place p lies in its block: eight data areas of 512 bytes, then eight tags of 16.
abbrev pub offset_of : ℕ → ℕ → ℕ
offset_of p j = cond (nat_lt j 512) (p * 512 + j) (4096 + p * 16 + (j - 512))

-- Byte o of the words.
abbrev pub byte_at : List ℕ → ℕ → ℕ
byte_at ws o = cond (o % 2 == 0) (slice_index ws (o / 2) % 256) (slice_index ws (o / 2) / 256 % 256)

-- Whole blocks of 4224 bytes, at most 512.
abbrev pub nor_blocks : List ℕ → ℕ
nor_blocks ws = min 512 (length ws / 2112)

-- Byte j of page n.
abbrev pub page_byte : List ℕ → ℕ → ℕ → ℕ
page_byte ws n j = byte_at ws (n / 8 * 4224 + offset_of (n % 8) j)

-- Page n. (Shut, since it computes to 528 elements.)
unfoldable pub nor_page : List ℕ → ℕ → Page
nor_page ws n = map (page_byte ws n) (range_with_len 0 528)

unfoldable pub nor_pages : List ℕ → List Page
nor_pages ws = map (nor_page ws) (range_with_len 0 (nor_blocks ws * 8))

-- The word that holds bytes 2i and 2i + 1 of the page at place p of block b.
abbrev pub word_at : ℕ → ℕ → ℕ → ℕ
word_at b p i = b * 2112 + offset_of p (2 * i) / 2
