-- A freshly formatted chip, and what memory has of it.
use Rattle.std.specs.Prelude.{◌≡◌, ℕ, ◌+◌, ◌*◌, ◌<◌, ◌≤◌, min, true, ◌⊎◌, List, [], length, replicate, ◌≢◌, slice_index_or, slice_set}
use Rattle.chip.specs.declared.BlockNumber.{BlockNumber}
use Rattle.chip.specs.Pages.{Page, is_erased}
use Rattle.limits.specs.declared.types.Bounded.{Bounded}
use Rattle.limits.specs.Values.{held_of}
use Rattle.readings.specs.Sayings.{Register, register, said, sayings}
use Rattle.readings.specs.Reading.{reading}
use Rattle.readings.specs.Changes.{fresh}
use Rattle.tables.specs.declared.index.Index.{Index}
use Rattle.tables.specs.declared.types.Record.{Record}
use Rattle.tables.specs.Records.{unused}
use Rattle.tables.specs.Tells.{Accepted}
use Rattle.noting.specs.Consistent.{Consistent}
use Rattle.noting.specs.Noted.{register_record}

-- (Shut, since they compute to 2048 elements.)
unfoldable pub no_records : List Record
no_records = replicate 2048 unused

unfoldable pub no_pages : List ℕ
no_pages = replicate 2048 65535

-- Memory of n pages, all erased but page k, which has the first register.
pub record IsFresh (n k : ℕ) (empty : BlockNumber) (text : Bounded ℕ 32) (ix : Index) : Type 0 where
  pub records : ix.records ≡ slice_set no_records k (register_record 1)
  pub pages : ix.pages ≡ min n 2048
  pub map : ix.map ≡ no_pages
  pub clock : ix.clock ≡ 1
  pub newest : ix.newest ≡ 1
  pub held : held_of ix.held ≡ []
  pub label : ix.label ≡ text
  pub spare : ix.spare ≡ empty

abbrev pub first_register : List ℕ → Register
first_register label = record { birth = 1; held = []; label = label }

-- Blocks of pages that are all erased but page k, which has the first register; block `spare` is wholly erased.
pub record Formatted (blocks per : ℕ) (pages : List Page) (k spare : ℕ) (label : List ℕ) : Type 0 where
  pub two : 2 ≤ blocks
  pub whole : length pages ≡ blocks * per
  pub few : length pages ≤ 2048
  pub inside : k < length pages
  pub first : said (slice_index_or pages k []) ≡ register (first_register label)
  pub erased : (j : ℕ) → j < length pages → (j ≢ k) → is_erased (slice_index_or pages j []) ≡ true
  pub spare_block : spare < blocks
  pub outside : (k < spare * per) ⊎ (spare * per + per ≤ k)

pub record FreshlyRead (blocks per : ℕ) (pages : List Page) (label : List ℕ) (ix : Index) : Type 0 where
  pub consistent : Consistent blocks per pages ix
  pub reads : reading (sayings pages) ≡ fresh label
  pub accepted : Accepted blocks per pages
