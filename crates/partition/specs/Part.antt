-- The part of a chip that a partition is: `count` blocks from block `first` on, as many as exist.
use Rattle.std.specs.Prelude.{◌≡◌, ℕ, ◌+◌, ◌-◌, ◌*◌, ◌<◌, ◌≤◌, min, ltb, List, [], length, get_or, take, drop, nat_lt, slice_index_or}
use Rattle.chip.specs.declared.ChipFault.{ChipFault}
use Rattle.chip.specs.declared.ChipFault.TheVariants.{OutOfRange}
use Rattle.chip.specs.Pages.{Page, pages_programmed, pages_erased}
use Rattle.partition.specs.declared.Partition.{Partition}

-- How many of `count` blocks from block `first` on exist, on a chip of `blocks`.
abbrev pub existing : ℕ → ℕ → ℕ → ℕ
existing first count blocks = min count (blocks - first)

-- What no call on a partition changes: what the chip below keeps, the bounds, and the pages before and behind.
pub record PartFrame (F : Type 0) : Type 0 where
  pub below : F
  pub first : ℕ
  pub count : ℕ
  pub before : List Page
  pub behind : List Page

-- `blocks`, `pages` and `kept` are those of the chip below, and `per` the pages of a block.
module _ {C : Type 0} where
  abbrev pub part_blocks : (C → ℕ) → Partition C → ℕ
  part_blocks blocks p = existing p.first p.count (blocks p.below)

  abbrev pub part_pages : ℕ → (C → List Page) → Partition C → List Page
  part_pages per pages p = take (p.count * per) (drop (p.first * per) (pages p.below))

  abbrev pub part_frame : {F : Type 0} → ℕ → (C → F) → (C → List Page) → Partition C → PartFrame F
  part_frame per kept pages p = record {
    below = kept p.below;
    first = p.first;
    count = p.count;
    before = take (p.first * per) (pages p.below);
    behind = drop (p.first * per + p.count * per) (pages p.below);
  }

-- `after` differs from `pages` at most in the n pages from the m-th on, which are now `part`.
pub record Changed (m n : ℕ) (pages after part : List Page) : Type 0 where
  pub before : take m after ≡ take m pages
  pub inside : take n (drop m after) ≡ part
  pub behind : drop (m + n) after ≡ drop (m + n) pages

-- Page p of a part, the n pages from the m-th on, is page `at` of all pages:
-- a call for the one answers and leaves what a call for the other does, and changes nothing outside the part.
pub record PageBelow (m n : ℕ) (pages : List Page) (p at : ℕ) : Type 0 where
  pub is : at ≡ m + p
  pub exists : ltb at (length pages) ≡ nat_lt p (length (take n (drop m pages)))
  pub holds : get_or pages at [] ≡ slice_index_or (take n (drop m pages)) p []
  pub programmed : (bytes : List ℕ) → Changed m n pages (pages_programmed pages at bytes) (pages_programmed (take n (drop m pages)) p bytes)

-- The same of block b of `count` from block `first` on, and of block `at` of all `blocks`.
pub record BlockBelow (per first count blocks : ℕ) (pages : List Page) (b at : ℕ) : Type 0 where
  pub within : b < count
  pub is : at ≡ first + b
  pub small : at < 4096
  pub exists : ltb at blocks ≡ nat_lt b (existing first count blocks)
  pub erased : Changed (first * per) (count * per) pages (pages_erased per blocks pages at) (pages_erased per (existing first count blocks) (take (count * per) (drop (first * per) pages)) b)

-- The refusal of page or block i of n, if there is none.
abbrev pub Lacking : ℕ → ℕ → ChipFault → Type 0
Lacking n i fault = (n ≤ i) × (fault ≡ OutOfRange)
