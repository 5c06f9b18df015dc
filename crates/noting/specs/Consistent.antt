-- What holds between the calls on an open store.
use Rattle.std.specs.Prelude.{◌≡◌, ℕ, ◌+◌, ◌*◌, ◌<◌, ◌≤◌, true, false, ◌⊎◌, List, [], length, slice_index_or}
use Rattle.chip.specs.Pages.{Page, is_erased}
use Rattle.readings.specs.Sayings.{said, sayings}
use Rattle.readings.specs.Reading.{birth_of, clock_of, reading, Told}
use Rattle.readings.specs.Mount.{capacity, is_nothing, size_fits}
use Rattle.readings.specs.Changes.{last_clock}
use Rattle.tables.specs.declared.index.Index.{Index}
use Rattle.tables.specs.Tells.{Tells, Accepted}

-- No birth stands on two programmed pages.
abbrev pub Lone : List Page → Type 0
Lone pages = (j k : ℕ) → j < length pages → k < length pages → is_nothing (said (slice_index_or pages j [])) ≡ false → is_nothing (said (slice_index_or pages k [])) ≡ false →
    birth_of (said (slice_index_or pages j [])) ≡ birth_of (said (slice_index_or pages k [])) → j ≡ k

-- Memory tells the pages, which say what a store says.
pub record Consistent (blocks per : ℕ) (pages : List Page) (ix : Index) : Type 0 where
  pub tells : Tells blocks per pages ix
  pub told : Told (sayings pages)
  pub lone : Lone pages

-- Page k can be programmed: it is erased, outside the spare block, and the clock can rise.
pub record Free (per : ℕ) (pages : List Page) (ix : Index) (k : ℕ) : Type 0 where
  pub inside : k < length pages
  pub erased : is_erased (slice_index_or pages k []) ≡ true
  pub outside : (k < ix.spare.0 * per) ⊎ (ix.spare.0 * per + per ≤ k)
  pub in_time : clock_of (sayings pages) < last_clock

-- Mount accepts what is consistent, where the sizes fit and no more is needed than there is room for.
abbrev pub ConsistentAccepted : Type 0
ConsistentAccepted = (blocks per : ℕ) (pages : List Page) (ix : Index) → Consistent blocks per pages ix → size_fits blocks per ≡ true →
    length (reading (sayings pages)).versions ≤ capacity blocks per → Accepted blocks per pages
