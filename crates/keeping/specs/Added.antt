-- One more page is programmed.
use Rattle.std.specs.Prelude.{◌≡◌, ℕ, suc, ◌+◌, ◌*◌, ◌<◌, ◌≤◌, true, ◌⊎◌, List, [], length, slice_index_or, slice_set}
use Rattle.chip.specs.Pages.{Page, is_erased}
use Rattle.readings.specs.Sayings.{said, sayings}
use Rattle.readings.specs.Reading.{birth_of, clock_of, reading}
use Rattle.readings.specs.Mount.{capacity}
use Rattle.tables.specs.Tells.{Accepted}
use Rattle.tables.specs.declared.index.Index.{Index}
use Rattle.keeping.specs.Opened.{Opened}

-- It was erased and not of the spare block, what it says is born at the next tick, and no more versions are needed then than fit.
pub record Added (blocks per : ℕ) (pages : List Page) (ix : Index) (place : ℕ) (page : Page) : Type 0 where
  pub inside : place < length pages
  pub free : is_erased (slice_index_or pages place []) ≡ true
  pub outside : (place < ix.spare.0 * per) ⊎ (ix.spare.0 * per + per ≤ place)
  pub born : birth_of (said page) ≡ suc (clock_of (sayings pages))
  pub room : length (reading (sayings (slice_set pages place page))).versions ≤ capacity blocks per

-- Mount accepts the pages then.
abbrev pub AddedIsAccepted : Type 0
AddedIsAccepted = (blocks per : ℕ) (pages : List Page) (ix : Index) (place : ℕ) (page : Page) → Opened blocks per pages ix →
    Added blocks per pages ix place page → Accepted blocks per (slice_set pages place page)
