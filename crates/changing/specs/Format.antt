-- A formatted chip.
use Rattle.std.specs.Prelude.{◌≡◌, ℕ, ◌<◌, true, List, [], length, Ok, Err, Result, slice_index_or}
use Rattle.chip.specs.declared.ChipFault.{ChipFault}
use Rattle.chip.specs.Pages.{Page, is_erased}
use Rattle.readings.specs.Sayings.{sayings}
use Rattle.readings.specs.Reading.{reading}
use Rattle.readings.specs.Changes.{fresh}
use Rattle.tables.specs.declared.index.Index.{Index}
use Rattle.keeping.specs.Opened.{Opened}
use Rattle.noting.specs.Fresh.{Formatted}

-- All pages are erased.
abbrev pub Blank : List Page → Type 0
Blank pages = (k : ℕ) → k < length pages → is_erased (slice_index_or pages k []) ≡ true

pub record AllErased (r : Result (Unit {0}) ChipFault) (pages' : List Page) : Type 0 where
  pub ok : r ≡ Ok tt
  pub erased : Blank pages'

-- The first page has the first register, and the second block is the spare.
abbrev pub Begins : ℕ → ℕ → List ℕ → Result (Unit {0}) ChipFault → List Page → Type 0
Begins blocks per label (Ok u) pages' = Formatted blocks per pages' 0 1 label
Begins blocks per label (Err fault) pages' = ⊥

-- A fresh store is open.
abbrev pub Fresh : ℕ → ℕ → List ℕ → Index → List Page → Type 0
Fresh blocks per label ix pages' = Opened blocks per pages' ix × (reading (sayings pages') ≡ fresh label)

abbrev pub Formats : ℕ → ℕ → List ℕ → Result Index ChipFault → List Page → Type 0
Formats blocks per label (Ok ix) pages' = Fresh blocks per label ix pages'
Formats blocks per label (Err fault) pages' = ⊥
