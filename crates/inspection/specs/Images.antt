-- The file of a chip image.
use Rattle.std.specs.Prelude.{ℕ, ◌+◌, ◌-◌, ◌*◌, List, [], ◌∷◌}

-- The 16-bit words of the bytes, low byte first; an odd last byte is left out.
abbrev pub words_of : List ℕ → List ℕ
words_of [] = []
words_of (byte ∷ []) = []
words_of (low ∷ high ∷ bytes) = (low + high * 256) ∷ words_of bytes

-- What the blocks leave over of a file: `per` pages of 528 bytes to a block.
abbrev pub left_over : ℕ → ℕ → ℕ → ℕ
left_over file_bytes blocks per = file_bytes - blocks * (per * 528)
