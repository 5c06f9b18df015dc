-- Where the versions of a sector stand.
use Rattle.std.specs.Prelude.{◌≡◌, ℕ, zero, suc, ◌<◌, Bool, cond, ◌&&◌, List, [], length, get_or, Some, None, Option, ◌==◌, nat_le, nat_lt, slice_index, slice_index_or}
use Rattle.std.proofs.Math.Option as opt
use Rattle.chip.specs.declared.PageNumber.{PageNumber}
use Rattle.chip.specs.Pages.{Page}
use Rattle.readings.specs.Versions.{Version}
use Rattle.readings.specs.Sayings.{version, said}
use Rattle.tables.specs.declared.index.Index.{Index}
use Rattle.tables.specs.declared.types.Kind.{Kind}
use Rattle.tables.specs.declared.types.Record.{Record}
use Rattle.tables.specs.Records as records
use Rattle.tables.specs.Records.{unused}

abbrev pub page_number : ℕ → PageNumber
page_number k = record { 0 = k }

-- Page r holds the version o.
abbrev pub Shows : List Page → Option PageNumber → opt.Option Version → Type 0
Shows pages None o = o ≡ opt.none
Shows pages (Some p) o = (v : Version) × (o ≡ opt.some v) × (p.0 < length pages) × (said (slice_index_or pages p.0 []) ≡ version v)

-- The page that the map has for a sector.
abbrev pub present_page : Index → ℕ → Option PageNumber
present_page ix s = cond (nat_lt (slice_index ix.map s) ix.pages) (Some (page_number (slice_index ix.map s))) None

-- (As the tables have it.)
abbrev pub is_version : Kind → Bool
is_version = records.is_version

-- A version of sector s, born at or before n.
abbrev pub is_of : ℕ → ℕ → Record → Bool
is_of n s r = is_version r.kind && (r.sector == s && nat_le r.birth n)

-- A page, and the birth of its version; 0 where there is none.
pub record Found : Type 0 where
  pub page : Option PageNumber
  pub birth : ℕ

-- Of the pages below a number, the one with the youngest version of sector s that was born at or before n.
unfoldable pub found_below : List Record → ℕ → ℕ → ℕ → Found
found_below records n s zero = record { page = None; birth = 0 }
found_below records n s (suc k) =
    let r = get_or records k unused in
    let found = found_below records n s k in
    cond (is_of n s r && nat_lt found.birth r.birth) (record { page = Some (page_number k); birth = r.birth }) found

abbrev pub page_in_state : Index → ℕ → ℕ → Option PageNumber
page_in_state ix n s = (found_below ix.records n s ix.pages).page
