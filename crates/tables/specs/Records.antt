-- The record of a page.
use Rattle.std.specs.Prelude.{◌≡◌, ℕ, Bool, true, false, ◌&&◌, ◌||◌, List, count_by, ◌==◌, nat_le, nat_lt}
use Rattle.readings.specs.Versions.{Content, bytes, deleted, any}
use Rattle.readings.specs.Sayings.{Saying, nothing, version, register, bad}
use Rattle.chip.specs.declared.BlockNumber.{BlockNumber}
use Rattle.limits.specs.declared.types.Bounded.{Bounded}
use Rattle.tables.specs.declared.index.Index.{Index}
use Rattle.tables.specs.declared.types.Kind.{Kind}
use Rattle.tables.specs.declared.types.Kind.TheVariants as kind
use Rattle.tables.specs.declared.types.Record.{Record}
use Rattle.tables.specs.declared.types.VersionKind.{VersionKind}
use Rattle.tables.specs.declared.types.VersionKind.TheVariants as version_kinds

abbrev pub unused : Record
unused = record { birth = 0; link = 0; sector = 0; kind = kind.Erased }

abbrev pub kind_of : Content → Kind
kind_of (bytes bs) = kind.Data
kind_of deleted = kind.Deletion

abbrev pub is_version : Kind → Bool
is_version kind.Erased = false
is_version kind.Data = true
is_version kind.Deletion = true
is_version kind.Register = false

abbrev pub version_kind : VersionKind → Kind
version_kind version_kinds.Data = kind.Data
version_kind version_kinds.Deletion = kind.Deletion

-- A number is held that is at or after a birth and before a link.
abbrev pub held_between : List ℕ → ℕ → ℕ → Bool
held_between held birth link = any (λ h. nat_le birth h && nat_lt h link) held

-- A version is needed if nothing replaced it, or some held number still sees it.
abbrev pub needed_by : List ℕ → ℕ → ℕ → Bool
needed_by held birth link = link == 0 || held_between held birth link

abbrev pub is_needed : List ℕ → Record → Bool
is_needed held r = is_version r.kind && needed_by held r.birth r.link

abbrev pub needed_count : List ℕ → List Record → ℕ
needed_count held rs = count_by (is_needed held) rs

-- It is of a version born after one number, and at or before another.
abbrev pub is_born_within : ℕ → ℕ → Record → Bool
is_born_within after upto r = is_version r.kind && (nat_lt after r.birth && nat_le r.birth upto)

-- The record says what the page says; there is none for a bad page.
abbrev pub Agrees : Saying → Record → Type 0
Agrees nothing r = r.kind ≡ kind.Erased
Agrees (version v) r = (r.kind ≡ kind_of v.content) × (r.sector ≡ v.sector) × (r.birth ≡ v.birth)
Agrees (register g) r = (r.kind ≡ kind.Register) × (r.birth ≡ g.birth)
Agrees (bad cause) r = ⊥

-- All but the records.
pub record Rest : Type 0 where
  pub pages : ℕ
  pub map : List ℕ
  pub clock : ℕ
  pub newest : ℕ
  pub held : Bounded ℕ 8
  pub label : Bounded ℕ 32
  pub spare : BlockNumber

abbrev pub rest_of : Index → Rest
rest_of ix = record {
  pages = ix.pages;
  map = ix.map;
  clock = ix.clock;
  newest = ix.newest;
  held = ix.held;
  label = ix.label;
  spare = ix.spare;
}
