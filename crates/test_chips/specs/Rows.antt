-- The chip that rows hold: two pages to a block, and no row left over.
use Rattle.std.specs.Prelude.{◌≡◌, ℕ, ◌+◌, ◌*◌, ◌/◌, ◌<◌, min, List, [], map, length, get_or, take, drop, slice_index_or, slice_set}
use Rattle.chip.specs.Pages.{Page, erased_page, pages_erased}
use Rattle.test_chips.specs.declared.row.Row.{Row}

abbrev pub row_bytes : Row → Page
row_bytes row = row.bytes

-- Whole blocks, at most 4096.
abbrev pub tiny_blocks : List Row → ℕ
tiny_blocks rows = min 4096 (length rows / 2)

abbrev pub tiny_pages : List Row → List Page
tiny_pages rows = take (tiny_blocks rows * 2) (map row_bytes rows)

-- The rows of no block.
abbrev pub spare_rows : List Row → List Row
spare_rows rows = drop (tiny_blocks rows * 2) rows

-- Row i is page p, for a call with n bytes: to write the row is to program the page.
pub record PageRow (rows : List Row) (p n i : ℕ) : Type 0 where
  pub is : i ≡ p
  pub whole : n ≡ 528
  pub exists : p < length (tiny_pages rows)
  pub within : i < length rows
  pub holds : get_or (tiny_pages rows) p [] ≡ slice_index_or (map row_bytes rows) i []
  pub blocks : (row : Row) → tiny_blocks (slice_set rows i row) ≡ tiny_blocks rows
  pub spare : (row : Row) → spare_rows (slice_set rows i row) ≡ spare_rows rows
  pub written : (row : Row) → tiny_pages (slice_set rows i row) ≡ slice_set (tiny_pages rows) p row.bytes

-- Row i and the next are block b: to make both erased is to erase the block.
pub record BlockRows (rows : List Row) (b i : ℕ) : Type 0 where
  pub is : i ≡ b * 2
  pub exists : b < tiny_blocks rows
  pub within : i + 1 < length rows
  pub blocks : (row next : Row) → tiny_blocks (slice_set (slice_set rows i row) (i + 1) next) ≡ tiny_blocks rows
  pub spare : (row next : Row) → spare_rows (slice_set (slice_set rows i row) (i + 1) next) ≡ spare_rows rows
  pub written : (row next : Row) → row.bytes ≡ erased_page → next.bytes ≡ erased_page → tiny_pages (slice_set (slice_set rows i row) (i + 1) next) ≡ pages_erased 2 (tiny_blocks rows) (tiny_pages rows) b
