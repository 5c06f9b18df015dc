-- What changes of an open store leave.
use Rattle.std.specs.Prelude.{◌≡◌, ℕ, suc, ◌+◌, ◌*◌, ◌<◌, ◌≤◌, min, true, ◌⊎◌, List, [], ◌∷◌, ◌++◌, length, Ok, Err, Result, slice_index_or}
use Rattle.chip.specs.declared.ChipFault.{ChipFault}
use Rattle.chip.specs.declared.PageNumber.{PageNumber}
use Rattle.chip.specs.Pages.{Page, is_erased}
use Rattle.limits.specs.Numbers.{rising}
use Rattle.limits.specs.Values.{held_of, label_of}
use Rattle.readings.specs.Versions.{Content, Reading, add}
use Rattle.readings.specs.Sayings.{version, register, said, sayings}
use Rattle.readings.specs.Reading.{latest, must, reading}
use Rattle.readings.specs.Changes.{last_clock, frozen, released}
use Rattle.readings.specs.Mount.{capacity}
use Rattle.tables.specs.declared.index.Index.{Index}
use Rattle.tables.specs.declared.types.VersionKind.{VersionKind}
use Rattle.tables.specs.Records.{kind_of, version_kind}
use Rattle.moving.specs.Kept.{all_stale}
use Rattle.keeping.specs.Opened.{Opened}
use Rattle.noting.specs.Holding.{without}
use Rattle.noting.specs.Noted.{next_version, next_register}

-- The change is made: the store is open, and reads as `after`.
pub record Changed (blocks per : ℕ) (after : Reading) (r : Result (Unit {0}) ChipFault) (pages' : List Page) (ix' : Index) : Type 0 where
  pub ok : r ≡ Ok tt
  pub opened : Opened blocks per pages' ix'
  pub reads : reading (sayings pages') ≡ after

-- n stale pages are lost, none only where there was none, and the store reads as before.
pub record Swept (blocks per : ℕ) (pages : List Page) (n : ℕ) (pages' : List Page) (ix' : Index) : Type 0 where
  pub opened : Opened blocks per pages' ix'
  pub reads : reading (sayings pages') ≡ reading (sayings pages)
  pub lost : all_stale (must (sayings pages)) pages ≡ all_stale (must (sayings pages')) pages' + n
  pub none : n ≡ 0 → (all_stale (must (sayings pages)) pages ≡ 0) × (pages' ≡ pages)

abbrev pub Sweeps : ℕ → ℕ → List Page → Result ℕ ChipFault → List Page → Index → Type 0
Sweeps blocks per pages (Ok n) pages' ix' = Swept blocks per pages n pages' ix'
Sweeps blocks per pages (Err fault) pages' ix' = ⊥

-- The page is erased and not of the spare block, and the store reads as before.
pub record Ready (blocks per : ℕ) (pages : List Page) (page : ℕ) (pages' : List Page) (ix' : Index) : Type 0 where
  pub opened : Opened blocks per pages' ix'
  pub reads : reading (sayings pages') ≡ reading (sayings pages)
  pub register : latest (sayings pages') ≡ latest (sayings pages)
  pub inside : page < length pages'
  pub outside : (page < ix'.spare.0 * per) ⊎ (ix'.spare.0 * per + per ≤ page)
  pub free : is_erased (slice_index_or pages' page []) ≡ true

abbrev pub Readies : ℕ → ℕ → List Page → Result PageNumber ChipFault → List Page → Index → Type 0
Readies blocks per pages (Ok page) pages' ix' = Ready blocks per pages page.0 pages' ix'
Readies blocks per pages (Err fault) pages' ix' = ⊥

-- The store is open, and its clock is not at its end.
pub record CanChange (blocks per : ℕ) (pages : List Page) (ix : Index) : Type 0 where
  pub opened : Opened blocks per pages ix
  pub in_time : (reading (sayings pages)).clock < last_clock

-- The image says the next version of sector s.
pub record NextVersion (ix : Index) (s : ℕ) (c : Content) (image : Page) : Type 0 where
  pub says : (blocks per : ℕ) (pages : List Page) → CanChange blocks per pages ix → said image ≡ version (next_version pages s c)

module _ (blocks per : ℕ) (pages : List Page) (ix : Index) where
  -- A version of sector s more, where there is room for it.
  abbrev pub Adds : ℕ → Content → Result (Unit {0}) ChipFault → List Page → Index → Type 0
  Adds s c r pages' ix' =
      CanChange blocks per pages ix → length (add (reading (sayings pages)) s c).versions ≤ capacity blocks per →
      Changed blocks per (add (reading (sayings pages)) s c) r pages' ix'

  -- The same for a page image.
  abbrev pub AddsPage : ℕ → VersionKind → Page → Result (Unit {0}) ChipFault → List Page → Index → Type 0
  AddsPage s kind image r pages' ix' =
      (c : Content) → kind_of c ≡ version_kind kind → NextVersion ix s c image → Adds s c r pages' ix'

  -- A register more: the next tick is held too, or a number is held no more.
  pub record Registered (held : List ℕ) (r : Result (Unit {0}) ChipFault) (pages' : List Page) (ix' : Index) : Type 0 where
    pub freezes : held ≡ held_of ix.held ++ (suc ix.clock ∷ []) → Changed blocks per (frozen (reading (sayings pages))) r pages' ix'
    pub releases : (n : ℕ) → held ≡ without n (held_of ix.held) → Changed blocks per (released n (reading (sayings pages))) r pages' ix'

  abbrev pub Registers : List ℕ → Result (Unit {0}) ChipFault → List Page → Index → Type 0
  Registers held r pages' ix' = CanChange blocks per pages ix → Registered held r pages' ix'

  abbrev pub RegistersPage : List ℕ → Page → Result (Unit {0}) ChipFault → List Page → Index → Type 0
  RegistersPage held image r pages' ix' = said image ≡ register (next_register pages held) → Registers held r pages' ix'

-- The birth of the page that is programmed next.
abbrev pub next_birth : Index → ℕ
next_birth ix = min ix.clock 4294967293 + 1

-- The image says a register with these held numbers; there is none where they don't rise.
abbrev pub RegisterImage : Index → List ℕ → Result Page ChipFault → Type 0
RegisterImage ix held (Ok image) = said image ≡ register (record { birth = next_birth ix; held = held; label = label_of ix.label })
RegisterImage ix held (Err fault) = rising 0 (next_birth ix) held ≡ true → ⊥

-- It is the next register of an open store, and for the held numbers that are asked for there is one.
abbrev pub NextRegister : Index → List ℕ → Result Page ChipFault → Type 0
NextRegister ix held (Ok image) = (blocks per : ℕ) (pages : List Page) → CanChange blocks per pages ix → said image ≡ register (next_register pages held)
NextRegister ix held (Err fault) =
    (blocks per : ℕ) (pages pages' : List Page) (ix' : Index) → CanChange blocks per pages ix → Registered blocks per pages ix held (Err fault) pages' ix'
