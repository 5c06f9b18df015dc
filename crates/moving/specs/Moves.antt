-- What moving pages needs and leaves.
use Rattle.std.specs.Prelude.{◌≡◌, ℕ, ◌+◌, ◌-◌, ◌*◌, ◌<◌, ◌≤◌, Bool, true, cond, ◌&&◌, ◌⊎◌, List, [], length, get_or, Ok, Result, ◌==◌, ◌≢◌, nat_le, nat_lt, slice_index, slice_index_or, slice_set}
use Rattle.chip.specs.declared.ChipFault.{ChipFault}
use Rattle.chip.specs.Pages.{Page, is_erased, erased_page}
use Rattle.tables.specs.declared.index.Index.{Index}
use Rattle.tables.specs.declared.types.Record.{Record}
use Rattle.tables.specs.Records.{unused}
use Rattle.moving.specs.Sound.{Sound, LastStay, page_stays, staying}
use Rattle.moving.specs.Kept.{Kept, all_stale, stale_in}

abbrev pub Answer : Type 0
Answer = Result (Unit {0}) ChipFault

-- The map, after a page of a sector went from `from` to `to`.
abbrev pub redirected : List ℕ → ℕ → ℕ → ℕ → List ℕ
redirected map s from to = cond (slice_index map s == from) (slice_set map s to) map

-- Page `to` is erased.
pub record Movable (pages : List Page) (from to : ℕ) : Type 0 where
  pub source : from < length pages
  pub target : to < length pages
  pub free : is_erased (slice_index_or pages to []) ≡ true

pub record Moved (pages : List Page) (ix : Index) (from to : ℕ) (r : Answer) (pages' : List Page) (ix' : Index) : Type 0 where
  pub ok : r ≡ Ok tt
  pub pages_are : pages' ≡ slice_set pages to (slice_index_or pages from [])
  pub records_are : ix'.records ≡ slice_set ix.records to (slice_index_or ix.records from unused)
  pub map_is : ix'.map ≡ redirected ix.map (get_or ix.records from unused).sector from to

-- k is none of the n numbers from `low` on.
abbrev pub Outside : ℕ → ℕ → ℕ → Type 0
Outside low n k = (k < low) ⊎ (low + n ≤ k)

-- k is one of them.
abbrev pub is_in : ℕ → ℕ → ℕ → Bool
is_in low n k = nat_le low k && nat_lt k (low + n)

-- Which page is at k once those of the n pages from `from` on that are to stay were copied to `to` and after it, each to its place.
abbrev pub origin : (ℕ → Bool) → ℕ → ℕ → ℕ → ℕ → ℕ
origin stay from to n k = cond (is_in to n k && stay (from + (k - to))) (from + (k - to)) k

-- Where a page of the map is then.
abbrev pub shifted : ℕ → ℕ → ℕ → ℕ → ℕ
shifted from to n m = cond (is_in from n m) (to + (m - from)) m

-- `per` pages and as many erased ones.
pub record Copyable (blocks per : ℕ) (pages : List Page) (ix : Index) (link last_birth : ℕ → ℕ) (limit from to : ℕ) : Type 0 where
  pub sound : Sound blocks per pages ix link last_birth
  pub last_stay : LastStay ix link last_birth limit
  pub source : from + per ≤ length pages
  pub target : to + per ≤ length pages
  pub apart : (from + per ≤ to) ⊎ (to + per ≤ from)
  pub free : (k : ℕ) → k < per → is_erased (slice_index_or pages (to + k) []) ≡ true

pub record Copied (stay : ℕ → Bool) (from to n : ℕ) (pages : List Page) (ix : Index) (pages' : List Page) (ix' : Index) : Type 0 where
  pub long : length pages' ≡ length pages
  pub pages_are : (k : ℕ) → slice_index_or pages' k [] ≡ slice_index_or pages (origin stay from to n k) []
  pub records_are : (k : ℕ) → slice_index_or ix'.records k unused ≡ slice_index_or ix.records (origin stay from to n k) unused
  pub map_is : (s : ℕ) → s < 2048 → slice_index ix'.map s ≡ shifted from to n (slice_index ix.map s)

-- The record of page k, once those of the n pages from `from` on are forgotten.
abbrev pub forgotten_at : List Record → ℕ → ℕ → ℕ → Record
forgotten_at records from n k = cond (is_in from n k) unused (slice_index_or records k unused)

-- Page k, once block `victim` went to the block `spare` and is erased.
abbrev pub relocated_at : ℕ → List Page → (ℕ → Bool) → ℕ → ℕ → ℕ → Page
relocated_at per pages stay victim spare k =
    cond (is_in (victim * per) per k) erased_page (slice_index_or pages (origin stay (victim * per) (spare * per) per k) [])

pub record Relocated (blocks per : ℕ) (pages : List Page) (ix : Index) (link last_birth : ℕ → ℕ) (limit victim : ℕ) (r : Answer) (pages' : List Page) (ix' : Index) : Type 0 where
  pub ok : r ≡ Ok tt
  pub sound : Sound blocks per pages' ix' link last_birth
  pub kept : Kept (staying ix link limit) pages pages'
  -- The stale pages of the block are lost, and no other.
  pub lost : all_stale (staying ix link limit) pages ≡ all_stale (staying ix link limit) pages' + stale_in (staying ix link limit) pages (victim * per) per
  pub spare : ix'.spare.0 ≡ victim
  pub pages_are : (k : ℕ) → k < length pages → slice_index_or pages' k [] ≡ relocated_at per pages (page_stays ix limit) victim ix.spare.0 k

-- What copying the pages that are to stay does.
abbrev pub Copies : ℕ → ℕ → List Page → Index → ℕ → ℕ → ℕ → Answer → List Page → Index → Type 0
Copies blocks per pages ix limit from to r pages' ix' =
    (link last_birth : ℕ → ℕ) → Copyable blocks per pages ix link last_birth limit from to → (r ≡ Ok tt) × Copied (page_stays ix limit) from to per pages ix pages' ix'

-- What relocating a block other than the spare one does.
abbrev pub Relocates : ℕ → ℕ → List Page → Index → ℕ → ℕ → Answer → List Page → Index → Type 0
Relocates blocks per pages ix limit victim r pages' ix' =
    (link last_birth : ℕ → ℕ) → Sound blocks per pages ix link last_birth → LastStay ix link last_birth limit → victim < blocks → (victim ≢ ix.spare.0) →
    Relocated blocks per pages ix link last_birth limit victim r pages' ix'
