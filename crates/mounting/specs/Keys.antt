-- Sector and birth of a version in one number: in a rising list of them, what replaced a version stands next to it.
use Rattle.std.specs.Prelude.{ℕ, ◌+◌, ◌*◌, ◌<◌, ◌≤◌, List, map, length, Some, None, Option, slice_index}
use Rattle.std.specs.List.{ContainsAt as Has}
use Rattle.limits.specs.declared.types.Version as limits
use Rattle.readings.specs.Versions.{Version}
use Rattle.readings.specs.Sayings.{Saying}
use Rattle.readings.specs.Reading.{versions}

abbrev pub key : ℕ → ℕ → ℕ
key sector birth = sector * 4294967296 + birth

abbrev pub key_of : Version → ℕ
key_of v = key v.sector v.birth

abbrev pub version_key : limits.Version → ℕ
version_key v = key v.sector.number v.birth.number

abbrev pub keys : List Saying → List ℕ
keys xs = map key_of (versions xs)

-- The least number above n stands at i, if there is one.
pub record Above (ks : List ℕ) (n i : ℕ) : Type 0 where
  pub above : i < length ks → n < slice_index ks i
  pub least : (k : ℕ) → k < length ks → n < slice_index ks k → (i < length ks) × (slice_index ks i ≤ slice_index ks k)

-- The next birth of sector s after b.
abbrev pub NextBirth : List ℕ → ℕ → ℕ → Option ℕ → Type 0
NextBirth ks s b None = (m : ℕ) → m < 4294967296 → Has ks (key s m) → m ≤ b
NextBirth ks s b (Some n) = (n < 4294967296) × Has ks (key s n) × (b < n) × ((m : ℕ) → m < 4294967296 → Has ks (key s m) → b < m → n ≤ m)
