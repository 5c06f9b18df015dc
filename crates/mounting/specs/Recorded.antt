-- The record of a page, with its link.
use Rattle.std.specs.Prelude.{◌≡◌, ℕ, ◌<◌, List, length, Option, slice_index_or}
use Rattle.std.specs.Option.{unwrap_or}
use Rattle.std.specs.List.Sorted.{IsPermutation}
use Rattle.limits.specs.declared.types.Version as limits
use Rattle.readings.specs.Sayings.{Saying, nothing, version, register, bad}
use Rattle.tables.specs.Records.{unused, Agrees}
use Rattle.tables.specs.declared.types.Kind.{Kind}
use Rattle.tables.specs.declared.types.Record.{Record}
use Rattle.mounting.specs.Keys.{NextBirth}

-- The record of a version; a link to no birth is 0.
abbrev pub version_record : Kind → limits.Version → Option ℕ → Record
version_record kind v link = record { birth = v.birth.number; link = unwrap_or link 0; sector = v.sector.number; kind = kind }

-- The link of a page that says x, by the keys of all versions.
abbrev pub LinkBy : List ℕ → Saying → ℕ → Type 0
LinkBy ks nothing t = t ≡ 0
LinkBy ks (version v) t = (o : Option ℕ) × (t ≡ unwrap_or o 0) × NextBirth ks v.sector v.birth o
LinkBy ks (register r) t = t ≡ 0
LinkBy ks (bad cause) t = t ≡ 0

abbrev pub Recorded : List ℕ → Saying → Record → Type 0
Recorded ks x r = Agrees x r × LinkBy ks x r.link

abbrev pub RecordedAll : List ℕ → List Saying → List Record → Type 0
RecordedAll ks xs rs = (k : ℕ) → k < length xs → Recorded ks (slice_index_or xs k nothing) (slice_index_or rs k unused)

-- The keys of all versions, in any order.
abbrev pub RecordedBy : List ℕ → List Saying → List Record → Type 0
RecordedBy numbers xs rs = (ks : List ℕ) × IsPermutation numbers ks × RecordedAll ks xs rs
