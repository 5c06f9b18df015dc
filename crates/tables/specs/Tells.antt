-- What an open store has in memory tells what its chip's pages say.
use Rattle.std.specs.Prelude.{◌≡◌, ℕ, ◌+◌, ◌*◌, ◌<◌, true, List, [], length, get_or, MatchBool, ◌≢◌, nat_lt, slice_index, slice_index_or}
use Rattle.chip.specs.Pages.{Page, is_erased}
use Rattle.limits.specs.Values.{held_of, label_of}
use Rattle.readings.specs.Versions.{Version}
use Rattle.readings.specs.Sorted.{In}
use Rattle.readings.specs.Sayings.{version, said, sayings}
use Rattle.readings.specs.Reading.{versions, clock_of, latest, held_by}
use Rattle.readings.specs.Links.{IsLast, Linked}
use Rattle.readings.specs.Mount.{plain, mount_verdict}
use Rattle.tables.specs.Records.{unused, Agrees}
use Rattle.tables.specs.declared.index.Index.{Index}

-- Page m has the youngest version of sector s.
pub record HasLast (pages : List Page) (s m : ℕ) : Type 0 where
  pub last : Version
  pub stands : said (slice_index_or pages m []) ≡ version last
  pub of_sector : last.sector ≡ s
  pub youngest : IsLast (versions (sayings pages)) last

-- A number that is no page stands for a sector without a version.
abbrev pub Mapped : List Page → ℕ → ℕ → Type 0
Mapped pages s m = MatchBool (nat_lt m (length pages)) (HasLast pages s m) ((w : Version) → In w (versions (sayings pages)) → w.sector ≢ s)

-- Blocks and pages to a block, the chip's pages, and what is in memory.
pub record Tells (blocks per : ℕ) (pages : List Page) (ix : Index) : Type 0 where
  pub counted : ix.pages ≡ length pages
  pub agree : (k : ℕ) → k < length pages → Agrees (said (slice_index_or pages k [])) (slice_index_or ix.records k unused)
  pub linked : (k : ℕ) (v : Version) → k < length pages → said (slice_index_or pages k []) ≡ version v → Linked (held_by (sayings pages)) (versions (sayings pages)) v (get_or ix.records k unused).link
  pub mapped : (s : ℕ) → s < 2048 → Mapped pages s (slice_index ix.map s)
  pub clock : ix.clock ≡ clock_of (sayings pages)
  pub newest : ix.newest ≡ (latest (sayings pages)).birth
  pub held : held_of ix.held ≡ (latest (sayings pages)).held
  pub label : label_of ix.label ≡ (latest (sayings pages)).label
  pub spare_block : ix.spare.0 < blocks
  pub spare_erased : (k : ℕ) → k < per → is_erased (slice_index_or pages (ix.spare.0 * per + k) []) ≡ true

-- Mount accepts the chip.
abbrev pub Accepted : ℕ → ℕ → List Page → Type 0
Accepted blocks per pages = mount_verdict blocks per pages ≡ plain 0
