-- What memory has once a page was programmed.
use Rattle.std.specs.Prelude.{◌≡◌, ℕ, suc, ◌+◌, true, cond, ◌⊎◌, List, [], ◌∷◌, ◌++◌, reverse, get_or, nat_lt, slice_index_or, slice_set}
use Rattle.chip.specs.Pages.{Page}
use Rattle.limits.specs.declared.types.Bounded.{Bounded}
use Rattle.readings.specs.Versions.{Content, Version, has, add}
use Rattle.readings.specs.Sorted.{reading_of}
use Rattle.readings.specs.Sayings.{Register, sayings}
use Rattle.readings.specs.Reading.{versions, clock_of, latest, reading}
use Rattle.readings.specs.Changes.{last_clock, frozen, released}
use Rattle.tables.specs.declared.index.Index.{Index}
use Rattle.tables.specs.declared.types.Kind.TheVariants as kind
use Rattle.tables.specs.declared.types.Record.{Record}
use Rattle.tables.specs.declared.types.VersionKind.{VersionKind}
use Rattle.tables.specs.Records.{unused, version_kind, Rest, rest_of}
use Rattle.noting.specs.Consistent.{Consistent}
use Rattle.noting.specs.Holding.{without}

-- All that memory has.
pub record Memory : Type 0 where
  pub records : List Record
  pub rest : Rest

abbrev pub memory_of : Index → Memory
memory_of ix = record { records = ix.records; rest = rest_of ix }

-- The clock after one tick; its last value stays.
abbrev pub ticked : ℕ → ℕ
ticked n = cond (nat_lt n last_clock) (n + 1) n

-- The record, once its version was replaced at t.
abbrev pub relinked : Record → ℕ → Record
relinked r t = record { birth = r.birth; link = t; sector = r.sector; kind = r.kind }

abbrev pub version_record : ℕ → ℕ → VersionKind → Record
version_record birth s k = record { birth = birth; link = 0; sector = s; kind = version_kind k }

module _ (ix : Index) (k s : ℕ) (of : VersionKind) where
  -- The record of the former version of the sector gets its link.
  abbrev pub version_records : List Record
  version_records =
      let former = get_or ix.map s 0 in
      slice_set (slice_set ix.records former (relinked (slice_index_or ix.records former unused) (ticked ix.clock))) k (version_record (ticked ix.clock) s of)

  abbrev pub version_rest : Rest
  version_rest = record {
    pages = ix.pages;
    map = slice_set ix.map s k;
    clock = ticked ix.clock;
    newest = ix.newest;
    held = ix.held;
    label = ix.label;
    spare = ix.spare;
  }

  -- A version of sector s on page k; nothing changes where the chip has no such page.
  abbrev pub version_noted : Memory
  version_noted = cond (nat_lt k ix.pages) (record { records = version_records; rest = version_rest }) (memory_of ix)

-- The version of a sector that is written next.
abbrev pub next_version : List Page → ℕ → Content → Version
next_version pages s c = record { sector = s; birth = suc (clock_of (sayings pages)); content = c }

-- Page k holds a version of sector s more.
pub record VersionAdded (blocks per : ℕ) (pages : List Page) (k : ℕ) (x : Page) (s : ℕ) (c : Content) (ix' : Index) : Type 0 where
  pub consistent : Consistent blocks per (slice_set pages k x) ix'
  pub reads : reading (sayings (slice_set pages k x)) ≡ add (reading (sayings pages)) s c

abbrev pub register_record : ℕ → Record
register_record birth = record { birth = birth; link = 0; sector = 0; kind = kind.Register }

module _ (ix : Index) (k : ℕ) (held : Bounded ℕ 8) where
  abbrev pub register_rest : Rest
  register_rest = record {
    pages = ix.pages;
    map = ix.map;
    clock = ticked ix.clock;
    newest = ticked ix.clock;
    held = held;
    label = ix.label;
    spare = ix.spare;
  }

  -- A register with these held numbers on page k; nothing changes where the chip has no such page.
  abbrev pub register_noted : Memory
  register_noted = cond (nat_lt k ix.pages) (record { records = slice_set ix.records k (register_record (ticked ix.clock)); rest = register_rest }) (memory_of ix)

-- The register that is written next.
abbrev pub next_register : List Page → List ℕ → Register
next_register pages held = record { birth = suc (clock_of (sayings pages)); held = held; label = (latest (sayings pages)).label }

-- Each of the numbers was held before, or is the birth of the next register.
abbrev pub Holdable : List Page → List ℕ → Type 0
Holdable pages held = (h : ℕ) → has h held ≡ true → (has h (latest (sayings pages)).held ≡ true) ⊎ (h ≡ suc (clock_of (sayings pages)))

-- Page k holds a register more.
pub record RegisterAdded (blocks per : ℕ) (pages : List Page) (k : ℕ) (x : Page) (held : List ℕ) (ix' : Index) : Type 0 where
  pub consistent : Consistent blocks per (slice_set pages k x) ix'
  pub reads : reading (sayings (slice_set pages k x)) ≡ reading_of (latest (sayings pages)).label (suc (clock_of (sayings pages))) (reverse held) (versions (sayings pages))
  pub freezes : held ≡ (latest (sayings pages)).held ++ (suc (clock_of (sayings pages)) ∷ []) → reading (sayings (slice_set pages k x)) ≡ frozen (reading (sayings pages))
  pub releases : (n : ℕ) → held ≡ without n (latest (sayings pages)).held → reading (sayings (slice_set pages k x)) ≡ released n (reading (sayings pages))
