-- Where a page lies among the words.
use Rattle.std.specs.Prelude.{◌≡◌, ℕ, ◌+◌, ◌*◌, ◌<◌, List, [], length, slice_index_or}
use Rattle.nor.specs.Image.{nor_blocks, nor_page, nor_pages}

-- Page n is at a place of a block, for a call with as many bytes as a page has.
pub record IsPage (ws : List ℕ) (n bytes block place : ℕ) : Type 0 where
  pub is : block * 8 + place ≡ n
  pub in_block : block < nor_blocks ws
  pub exists : n < length (nor_pages ws)
  pub whole : bytes ≡ 528
  pub holds : slice_index_or (nor_pages ws) n [] ≡ nor_page ws (block * 8 + place)
