-- What programming does to the words: it ANDs, so it turns 1 bits into 0 bits and no 0 bit into a 1 bit.
use Rattle.std.specs.Prelude.{ℕ, zero, suc, ◌+◌, ◌*◌, List, bit_and, slice_index, slice_set}
use Rattle.nor.specs.Image.{word_at}

-- The word of the i-th pair of bytes.
abbrev pub pair_of : List ℕ → ℕ → ℕ
pair_of bytes i = slice_index bytes (2 * i) + slice_index bytes (2 * i + 1) * 256

-- Word w with a value ANDed into it.
abbrev pub and_into : List ℕ → ℕ → ℕ → List ℕ
and_into ws w v = slice_set ws w (bit_and (slice_index ws w) v)

-- The first n pairs of bytes ANDed into the page at place p of block b.
abbrev pub anded : List ℕ → ℕ → ℕ → List ℕ → ℕ → List ℕ
anded ws b p bytes zero = ws
anded ws b p bytes (suc n) = and_into (anded ws b p bytes n) (word_at b p n) (pair_of bytes n)

-- All of them. (Shut, since it computes to 264 steps.)
unfoldable pub programmed : List ℕ → ℕ → ℕ → List ℕ → List ℕ
programmed ws b p bytes = anded ws b p bytes 264
