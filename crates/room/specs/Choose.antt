-- An erased page, a block to clean, and versions born after a limit, by the records.
use Rattle.std.specs.Prelude.{◌≡◌, ℕ, ◌+◌, ◌-◌, ◌*◌, ◌/◌, ◌<◌, ◌≤◌, Bool, true, false, not, ◌&&◌, ◌⊎◌, List, [], length, get_or, Some, None, Ok, Err, Option, Result, ◌==◌, ◌≢◌, nat_lt, slice_index_or, map, find}
use Rattle.std.specs.List.{range_with_len}
use Rattle.chip.specs.declared.BlockNumber.{BlockNumber}
use Rattle.chip.specs.declared.PageNumber.{PageNumber}
use Rattle.chip.specs.declared.ChipFault.{ChipFault}
use Rattle.chip.specs.Pages.{Page, is_erased}
use Rattle.readings.specs.Versions.{keep}
use Rattle.readings.specs.Sayings.{Saying, nothing, version, register, bad, said, sayings}
use Rattle.tables.specs.declared.index.Index.{Index}
use Rattle.tables.specs.declared.types.Kind.{Kind}
use Rattle.tables.specs.declared.types.Kind.TheVariants as kind
use Rattle.tables.specs.Records.{unused}
use Rattle.moving.specs.Sound.{Sound, LastStay, staying, by_kind, page_stays}
use Rattle.moving.specs.Kept.{Kept, all_stale, tally, stale_in}
use Rattle.moving.specs.Moves.{Answer, Outside, Relocated}

abbrev pub is_free : Kind → Bool
is_free kind.Erased = true
is_free kind.Data = false
is_free kind.Deletion = false
is_free kind.Register = false

abbrev pub page_free : Index → ℕ → Bool
page_free ix k = is_free (get_or ix.records k unused).kind

-- Programmed, and not to stay.
abbrev pub page_stale : Index → ℕ → ℕ → Bool
page_stale ix limit k = not (page_free ix k) && not (page_stays ix limit k)

-- The stale pages of a block.
abbrev pub stale_of : Index → ℕ → ℕ → ℕ → ℕ
stale_of ix limit per b = tally (page_stale ix limit) (b * per) per

-- The block other than the spare one with the most stale pages, if one has any.
abbrev pub Chosen : Index → ℕ → ℕ → ℕ → Option BlockNumber → Type 0
Chosen ix limit per blocks (Some b) =
    (b.0 < blocks) × (b.0 ≢ ix.spare.0) × (0 < stale_of ix limit per b.0) × ((k : ℕ) → k < blocks → (k ≢ ix.spare.0) → stale_of ix limit per k ≤ stale_of ix limit per b.0)
Chosen ix limit per blocks None = (k : ℕ) → k < blocks → (k ≢ ix.spare.0) → stale_of ix limit per k ≡ 0

-- The best of the first n blocks, and its number of stale pages.
abbrev pub Best : Index → ℕ → ℕ → ℕ → ℕ → Option BlockNumber → Type 0
Best ix limit per n most (Some b) = (b.0 < n) × (b.0 ≢ ix.spare.0) × (most ≡ stale_of ix limit per b.0) × (0 < most)
Best ix limit per n most None = most ≡ 0

-- An erased page outside the spare block, if there is one.
abbrev pub Found : Index → ℕ → Option PageNumber → Type 0
Found ix per (Some p) = (p.0 < ix.pages) × Outside (ix.spare.0 * per) per p.0 × (page_free ix p.0 ≡ true)
Found ix per None = (k : ℕ) → k < ix.pages → Outside (ix.spare.0 * per) per k → page_free ix k ≡ false

-- The page is erased and outside the spare block.
abbrev pub is_open : Index → ℕ → PageNumber → Bool
is_open ix per p = not (p.0 / per == ix.spare.0) && page_free ix p.0

-- The first such page.
abbrev pub first_free : Index → ℕ → Option PageNumber
first_free ix per = find (is_open ix per) (map (λ p. record { 0 = p }) (range_with_len 0 ix.pages))

-- A version born after the limit.
abbrev pub is_later : ℕ → Saying → Bool
is_later limit nothing = false
is_later limit (version v) = nat_lt limit v.birth
is_later limit (register g) = false
is_later limit (bad cause) = false

abbrev pub page_later : Index → ℕ → ℕ → Bool
page_later ix limit k = by_kind (get_or ix.records k unused).kind (nat_lt limit (get_or ix.records k unused).birth) false

-- Fewer pages are to stay than there are outside the spare block.
abbrev pub Fits : ℕ → ℕ → (Saying → Bool) → List Page → Type 0
Fits blocks per stay pages = length (keep stay (sayings pages)) + 1 ≤ (blocks - 1) * per

-- No page outside the spare block is erased.
abbrev pub Full : ℕ → List Page → Index → Type 0
Full per pages ix = (k : ℕ) → k < length pages → Outside (ix.spare.0 * per) per k → is_erased (slice_index_or pages k []) ≡ false

module _ (blocks per : ℕ) (pages : List Page) (ix : Index) (link last_birth : ℕ → ℕ) (limit : ℕ) where
  -- An erased page outside the spare block; one block was relocated if there was none, and nothing changed if there was.
  pub record Placed (page : PageNumber) (pages' : List Page) (ix' : Index) : Type 0 where
    pub sound : Sound blocks per pages' ix' link last_birth
    pub kept : Kept (staying ix link limit) pages pages'
    pub inside : page.0 < length pages'
    pub outside : Outside (ix'.spare.0 * per) per page.0
    pub free : is_erased (slice_index_or pages' page.0 []) ≡ true
    pub once : ((pages' ≡ pages) × (ix' ≡ ix)) ⊎ (Full per pages ix × ((victim : ℕ) × Relocated blocks per pages ix link last_birth limit victim (Ok tt) pages' ix'))

  abbrev pub Makes : Result PageNumber ChipFault → List Page → Index → Type 0
  Makes (Ok page) pages' ix' = Placed page pages' ix'
  Makes (Err fault) pages' ix' = ⊥

  -- n stale pages are lost; no block had more, and without any nothing changed.
  pub record Cleaned (n : ℕ) (pages' : List Page) (ix' : Index) : Type 0 where
    pub sound : Sound blocks per pages' ix' link last_birth
    pub kept : Kept (staying ix link limit) pages pages'
    pub lost : all_stale (staying ix link limit) pages ≡ all_stale (staying ix link limit) pages' + n
    pub most : (b : ℕ) → b < blocks → stale_in (staying ix link limit) pages (b * per) per ≤ n
    pub none : n ≡ 0 → (pages' ≡ pages) × (ix' ≡ ix) × (all_stale (staying ix link limit) pages ≡ 0)

  abbrev pub Cleans : Result ℕ ChipFault → List Page → Index → Type 0
  Cleans (Ok n) pages' ix' = Cleaned n pages' ix'
  Cleans (Err fault) pages' ix' = ⊥

  -- No page says a version born after the limit; where none did, nothing changed.
  pub record Purged (r : Answer) (pages' : List Page) (ix' : Index) : Type 0 where
    pub ok : r ≡ Ok tt
    pub sound : Sound blocks per pages' ix' link last_birth
    pub kept : Kept (staying ix link limit) pages pages'
    pub none_later : (k : ℕ) → k < length pages' → is_later limit (said (slice_index_or pages' k [])) ≡ false
    pub still : ((k : ℕ) → k < length pages → is_later limit (said (slice_index_or pages k [])) ≡ false) → (pages' ≡ pages) × (ix' ≡ ix)

-- What making room does.
abbrev pub MakesRoom : ℕ → ℕ → List Page → Index → ℕ → Result PageNumber ChipFault → List Page → Index → Type 0
MakesRoom blocks per pages ix limit r pages' ix' =
    (link last_birth : ℕ → ℕ) → Sound blocks per pages ix link last_birth → LastStay ix link last_birth limit → Fits blocks per (staying ix link limit) pages →
    Makes blocks per pages ix link last_birth limit r pages' ix'

-- What cleaning a block does.
abbrev pub CleansBlock : ℕ → ℕ → List Page → Index → ℕ → Result ℕ ChipFault → List Page → Index → Type 0
CleansBlock blocks per pages ix limit r pages' ix' =
    (link last_birth : ℕ → ℕ) → Sound blocks per pages ix link last_birth → LastStay ix link last_birth limit →
    Cleans blocks per pages ix link last_birth limit r pages' ix'

-- What a purge does.
abbrev pub Purges : ℕ → ℕ → List Page → Index → ℕ → Answer → List Page → Index → Type 0
Purges blocks per pages ix limit r pages' ix' =
    (link last_birth : ℕ → ℕ) → Sound blocks per pages ix link last_birth → LastStay ix link last_birth limit →
    Purged blocks per pages ix link last_birth limit r pages' ix'
