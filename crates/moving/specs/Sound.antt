-- What holds between the steps of a store: its chip's pages, and what is in memory.
use Rattle.std.specs.Prelude.{◌≡◌, ℕ, ◌+◌, ◌*◌, ◌<◌, ◌≤◌, Bool, true, false, List, [], length, get_or, ◌==◌, slice_index, slice_index_or}
use Rattle.chip.specs.Pages.{Page, is_erased}
use Rattle.limits.specs.declared.types.Bounded.{Bounded}
use Rattle.limits.specs.Values.{held_of}
use Rattle.readings.specs.Versions.{Version}
use Rattle.readings.specs.Sayings.{Saying, version, said}
use Rattle.readings.specs.Reading.{birth_of, stays}
use Rattle.readings.specs.Mount.{is_nothing}
use Rattle.readings.specs.Links.{stays_by}
use Rattle.tables.specs.declared.index.Index.{Index}
use Rattle.tables.specs.declared.types.Kind.{Kind}
use Rattle.tables.specs.declared.types.Kind.TheVariants as kind
use Rattle.tables.specs.declared.types.Record.{Record}
use Rattle.tables.specs.Records.{unused, Agrees}

-- Page m says the version of sector s that was born at b.
pub record Shows (pages : List Page) (s b m : ℕ) : Type 0 where
  pub inside : m < length pages
  pub shown : Version
  pub says : said (slice_index_or pages m []) ≡ version shown
  pub of_sector : shown.sector ≡ s
  pub born : shown.birth ≡ b

-- `link` is the link of the version born at a number; `last_birth` is the birth of a sector's version in the map, 0 where the map has none.
pub record Sound (blocks per : ℕ) (pages : List Page) (ix : Index) (link last_birth : ℕ → ℕ) : Type 0 where
  pub counted : ix.pages ≡ length pages
  pub fits : length pages ≤ 2048
  pub whole : length pages ≡ blocks * per
  pub agree : (k : ℕ) → k < length pages → Agrees (said (slice_index_or pages k [])) (slice_index_or ix.records k unused)
  pub links : (k : ℕ) (v : Version) → k < length pages → said (slice_index_or pages k []) ≡ version v → (get_or ix.records k unused).link ≡ link v.birth
  -- No birth stands on two programmed pages.
  pub lone : (j k : ℕ) → j < length pages → k < length pages → is_nothing (said (slice_index_or pages j [])) ≡ false → is_nothing (said (slice_index_or pages k [])) ≡ false →
      birth_of (said (slice_index_or pages j [])) ≡ birth_of (said (slice_index_or pages k [])) → j ≡ k
  pub unmapped : (s : ℕ) → s < 2048 → last_birth s ≡ 0 → length pages ≤ slice_index ix.map s
  pub mapped : (s : ℕ) → s < 2048 → 0 < last_birth s → Shows pages s (last_birth s) (slice_index ix.map s)
  pub spare_block : ix.spare.0 < blocks
  pub spare_erased : (k : ℕ) → k < per → is_erased (slice_index_or pages (ix.spare.0 * per + k) []) ≡ true

-- What is to stay under a limit: versions by their births and links, and the youngest register.
abbrev pub staying : Index → (ℕ → ℕ) → ℕ → Saying → Bool
staying ix link limit = stays (λ v. stays_by (held_of ix.held) limit v.birth (link v.birth)) ix.newest

-- The versions in the map stay.
abbrev pub LastStay : Index → (ℕ → ℕ) → (ℕ → ℕ) → ℕ → Type 0
LastStay ix link last_birth limit =
    (s : ℕ) → s < 2048 → 0 < last_birth s → stays_by (held_of ix.held) limit (last_birth s) (link (last_birth s)) ≡ true

-- The same by a page's record.
abbrev pub by_kind : Kind → Bool → Bool → Bool
by_kind kind.Erased v r = false
by_kind kind.Data v r = v
by_kind kind.Deletion v r = v
by_kind kind.Register v r = r

abbrev pub record_stays : List ℕ → ℕ → ℕ → Record → Bool
record_stays held newest limit r = by_kind r.kind (stays_by held limit r.birth r.link) (r.birth == newest)

abbrev pub page_stays : Index → ℕ → ℕ → Bool
page_stays ix limit k = record_stays (held_of ix.held) ix.newest limit (slice_index_or ix.records k unused)

-- What cleaning leaves as it is: all but the records, the map and the spare block.
pub record Lasting : Type 0 where
  pub pages : ℕ
  pub clock : ℕ
  pub newest : ℕ
  pub held : Bounded ℕ 8
  pub label : Bounded ℕ 32

abbrev pub lasting : Index → Lasting
lasting ix = record { pages = ix.pages; clock = ix.clock; newest = ix.newest; held = ix.held; label = ix.label }
