-- What cleaning keeps.
use Rattle.std.specs.Prelude.{◌≡◌, ℕ, List}
use Rattle.chip.specs.Pages.{Page}
use Rattle.readings.specs.Sayings.{Saying, sayings}
use Rattle.readings.specs.Reading.{latest, reading, must}
use Rattle.tables.specs.declared.index.Index.{Index}
use Rattle.moving.specs.Sound.{Sound, lasting, staying}
use Rattle.moving.specs.Kept.{Kept}
use Rattle.keeping.specs.Opened.{Opened, link_in, last_birth_in, no_limit}

-- All that must stay is still there, nothing new is said, and each version has its link and each sector its version.
pub record Cleaned (blocks per : ℕ) (pages : List Page) (ix : Index) (pages' : List Page) (ix' : Index) : Type 0 where
  pub kept : Kept (must (sayings pages)) pages pages'
  pub sound : Sound blocks per pages' ix' (link_in pages ix) (last_birth_in pages ix)
  pub lasts : lasting ix' ≡ lasting ix

-- The store is open as before, and reads the same.
pub record Same (blocks per : ℕ) (pages pages' : List Page) (ix' : Index) : Type 0 where
  pub reads : reading (sayings pages') ≡ reading (sayings pages)
  pub register : latest (sayings pages') ≡ latest (sayings pages)
  pub needs : (x : Saying) → must (sayings pages') x ≡ must (sayings pages) x
  pub opened : Opened blocks per pages' ix'

abbrev pub CleaningKeeps : Type 0
CleaningKeeps = (blocks per : ℕ) (pages : List Page) (ix : Index) (pages' : List Page) (ix' : Index) → Opened blocks per pages ix →
    Cleaned blocks per pages ix pages' ix' → Same blocks per pages pages' ix'

-- To keep what stays by its record is to keep what must stay.
abbrev pub StayingKept : Type 0
StayingKept = (blocks per : ℕ) (pages : List Page) (ix : Index) (pages' : List Page) → Opened blocks per pages ix →
    Kept (staying ix (link_in pages ix) no_limit) pages pages' → Kept (must (sayings pages)) pages pages'
