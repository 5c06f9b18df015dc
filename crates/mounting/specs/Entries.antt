-- What the map has for a sector.
use Rattle.std.specs.Prelude.{◌≡◌, ℕ, ◌<◌, ◌⊎◌, List, get_or, Some, slice_index_or}
use Rattle.limits.specs.declared.types.Version.{Version}
use Rattle.layout.specs.declared.pages.Tag.{Tag}
use Rattle.layout.specs.declared.pages.Tag.TheVariants as tag
use Rattle.tables.specs.Records.{unused}
use Rattle.tables.specs.declared.types.Record.{Record}
use Rattle.mounting.specs.Tagged.{version_in}

-- Page k has a version of sector s that nothing replaced.
abbrev pub LastAt : List Tag → List Record → ℕ → ℕ → Type 0
LastAt ts rs s k = (v : Version) × (version_in (slice_index_or ts k tag.Erased) ≡ Some v) × (v.sector.number ≡ s) × ((get_or rs k unused).link ≡ 0)

-- Of the first n pages, m is the one with such a version, and 65535 if there is none.
abbrev pub Entry : List Tag → List Record → ℕ → ℕ → ℕ → Type 0
Entry ts rs n s m = ((m < n) × LastAt ts rs s m) ⊎ ((m ≡ 65535) × ((k : ℕ) → k < n → LastAt ts rs s k → ⊥))
