-- What a store is: the chip by its pages, and what is in memory while it is open.
use Rattle.std.specs.Prelude.{Bool, List, ◌≡◌, ℕ, Option}
use Rattle.std.specs.Option.{is_some, ForSome}
use Rattle.chip.specs.Pages.{Page}
use Rattle.chip.specs.declared.Chip.{Ghosts}
use Rattle.readings.specs.Versions.{Reading}
use Rattle.readings.specs.Sayings.{sayings}
use Rattle.readings.specs.Reading.{reading}
use Rattle.readings.specs.Mount.{capacity}
use Rattle.tables.specs.declared.index.Index.{Index}
use Rattle.keeping.specs.Opened.{Opened}
use Rattle.store.specs.declared.parts.Store.{Store}

pub record View : Type 0 where
  pub blocks : ℕ
  pub per : ℕ
  pub pages : List Page
  pub memory : Option Index

abbrev pub is_open : View → Bool
is_open v = is_some v.memory

-- A store, by the meaning of its chip: blocks, pages to a block, pages.
abbrev pub seen : {C : Type 0} → Ghosts C → Store C → View
seen chip s =
    record { blocks = chip.blocks s.chip; per = chip.per; pages = chip.pages s.chip; memory = s.index }

-- What its chip reads as, and how many versions it can keep.
abbrev pub reading_of : View → Reading
reading_of v = reading (sayings v.pages)

abbrev pub capacity_of : View → ℕ
capacity_of v = capacity v.blocks v.per

-- Mount accepts the pages of an open store, and memory tells what they say. A store is made closed, mount and format open it so, and every call on an open store keeps it.
abbrev pub Sound : View → Type 0
Sound v = ForSome v.memory (λ ix. Opened v.blocks v.per v.pages ix)

-- The chip has as many blocks and pages as before.
pub record SameSize (v w : View) : Type 0 where
  pub blocks : w.blocks ≡ v.blocks
  pub per : w.per ≡ v.per
