-- What holds of the pages of a chip that mount accepts.
use Rattle.std.specs.Prelude.{◌≡◌, ℕ, ◌*◌, ◌<◌, ◌≤◌, true, false, List, [], length, slice_index_or}
use Rattle.chip.specs.Pages.{Page}
use Rattle.limits.specs.Numbers.{rising}
use Rattle.readings.specs.Versions.{Version}
use Rattle.readings.specs.Sorted.{In}
use Rattle.readings.specs.Sayings.{Saying, nothing, version, register, bad, Register, said, sayings}
use Rattle.readings.specs.Reading.{birth_of, clock_of, reading, must, Told}
use Rattle.readings.specs.Mount.{capacity, is_nothing, erased_block}
use Rattle.readings.specs.Changes.{last_clock, last_sector}
use Rattle.tables.specs.Tells.{Accepted}

pub record VersionLimits (v : Version) : Type 0 where
  pub first : 1 ≤ v.birth
  pub last : v.birth ≤ last_clock
  pub sector : v.sector ≤ last_sector

-- The held numbers rise, and none is above the register's birth.
pub record RegisterLimits (r : Register) : Type 0 where
  pub first : 1 ≤ r.birth
  pub last : r.birth ≤ last_clock
  pub few : length r.held ≤ 8
  pub known : rising 0 r.birth r.held ≡ true
  pub short : length r.label ≤ 32

-- The numbers of a page that is not bad are within their limits.
abbrev pub InLimits : Saying → Type 0
InLimits nothing = Unit {0}
InLimits (version v) = VersionLimits v
InLimits (register r) = RegisterLimits r
InLimits (bad cause) = Unit {0}

-- No birth stands on two programmed pages.
abbrev pub Lone : List Page → Type 0
Lone pages =
    (j k : ℕ) → j < length pages → k < length pages → is_nothing (said (slice_index_or pages j [])) ≡ false → is_nothing (said (slice_index_or pages k [])) ≡ false →
    birth_of (said (slice_index_or pages j [])) ≡ birth_of (said (slice_index_or pages k [])) → j ≡ k

pub record Stored (blocks per : ℕ) (pages : List Page) : Type 0 where
  pub told : Told (sayings pages)
  pub none_bad : (cause : ℕ) → In (bad cause) (sayings pages) → ⊥
  pub limits : (x : Saying) → In x (sayings pages) → InLimits x
  pub lone : Lone pages
  pub two_blocks : 2 ≤ blocks
  pub small : blocks * per ≤ 2048
  pub has_erased_block : erased_block per blocks (sayings pages) ≡ true
  pub room : length (reading (sayings pages)).versions ≤ capacity blocks per

abbrev pub AcceptedIsStored : Type 0
AcceptedIsStored = (blocks per : ℕ) (pages : List Page) → Accepted blocks per pages → Stored blocks per pages

-- And these are all that mount asks.
abbrev pub StoredIsAccepted : Type 0
StoredIsAccepted = (blocks per : ℕ) (pages : List Page) → Stored blocks per pages → Accepted blocks per pages

-- The page of the greatest birth is never stale.
abbrev pub ClockStays : Type 0
ClockStays = (xs : List Saying) → Told xs → (x : Saying) → In x xs → birth_of x ≡ clock_of xs → 0 < birth_of x → must xs x ≡ true
