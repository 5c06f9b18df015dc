-- What holds of an open store: the pages of its chip, and what it has in memory.
use Rattle.std.specs.Prelude.{◌≡◌, ℕ, suc, ◌+◌, ◌-◌, ◌*◌, ◌≤◌, Bool, false, cond, List, [], ◌∷◌, length, get_or, ◌==◌, nat_lt, slice_index, slice_index_or}
use Rattle.chip.specs.Pages.{Page}
use Rattle.readings.specs.Versions.{keep}
use Rattle.readings.specs.Sorted.{In}
use Rattle.readings.specs.Sayings.{Saying, nothing, version, register, bad, said, sayings}
use Rattle.readings.specs.Reading.{birth_of, must, reading}
use Rattle.tables.specs.Records.{unused}
use Rattle.tables.specs.Tells.{Tells, Accepted}
use Rattle.tables.specs.declared.index.Index.{Index}
use Rattle.moving.specs.Sound.{Sound, LastStay, staying}

-- Mount accepts the pages, and what is in memory tells what they say.
pub record Opened (blocks per : ℕ) (pages : List Page) (ix : Index) : Type 0 where
  pub accepted : Accepted blocks per pages
  pub whole : length pages ≡ blocks * per
  pub tells : Tells blocks per pages ix

-- A version born at b.
abbrev pub is_born : ℕ → Saying → Bool
is_born b nothing = false
is_born b (version v) = v.birth == b
is_born b (register r) = false
is_born b (bad cause) = false

-- The page that says it, or the number of pages.
unfoldable pub place_of : ℕ → List Saying → ℕ
place_of b [] = 0
place_of b (x ∷ xs) = cond (is_born b x) 0 (suc (place_of b xs))

-- The link of the version born at b, by its page's record.
abbrev pub link_in : List Page → Index → ℕ → ℕ
link_in pages ix b = (get_or ix.records (place_of b (sayings pages)) unused).link

-- The birth of what page m says, 0 where there is no such page.
abbrev pub birth_at : List Page → ℕ → ℕ
birth_at pages m = cond (nat_lt m (length pages)) (birth_of (said (slice_index_or pages m []))) 0

-- The birth of a sector's version in the map, 0 where the map has none.
abbrev pub last_birth_in : List Page → Index → ℕ → ℕ
last_birth_in pages ix s = birth_at pages (slice_index ix.map s)

-- Above every birth.
abbrev pub no_limit : ℕ
no_limit = 4294967295

-- What moving pages needs.
abbrev pub OpenedIsSound : Type 0
OpenedIsSound = (blocks per : ℕ) (pages : List Page) (ix : Index) → Opened blocks per pages ix → Sound blocks per pages ix (link_in pages ix) (last_birth_in pages ix)

-- The versions in the map are needed.
abbrev pub LastStays : Type 0
LastStays = (blocks per : ℕ) (pages : List Page) (ix : Index) → Opened blocks per pages ix → LastStay ix (link_in pages ix) (last_birth_in pages ix) no_limit

-- What stays by its record is what must stay.
abbrev pub StayingIsMust : Type 0
StayingIsMust = (blocks per : ℕ) (pages : List Page) (ix : Index) → Opened blocks per pages ix →
    (x : Saying) → In x (sayings pages) → staying ix (link_in pages ix) no_limit x ≡ must (sayings pages) x

-- Each needed version stands on one page, and so does the youngest register.
abbrev pub MustCount : Type 0
MustCount = (blocks per : ℕ) (pages : List Page) → Accepted blocks per pages → length (keep (must (sayings pages)) (sayings pages)) ≡ length (reading (sayings pages)).versions + 1

-- Of all pages but a block's, one at least need not stay.
abbrev pub ThereIsRoom : Type 0
ThereIsRoom = (blocks per : ℕ) (pages : List Page) (ix : Index) → Opened blocks per pages ix → 2 ≤ per →
    length (keep (staying ix (link_in pages ix) no_limit) (sayings pages)) + 1 ≤ (blocks - 1) * per
