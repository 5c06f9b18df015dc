-- What the pages of a chip read as: a function of what they say, whatever their order, however often one stands there.
use Rattle.std.specs.Prelude.{◌≡◌, ℕ, ◌<◌, max, Bool, true, false, cond, ◌⊎◌, List, [], ◌∷◌, reverse, ◌==◌, nat_le}
use Rattle.readings.specs.Versions.{Version, Reading, needed}
use Rattle.readings.specs.Sorted.{In, sort, reading_of}
use Rattle.readings.specs.Sayings.{Register, Saying, nothing, version, register, bad}

abbrev pub birth_of : Saying → ℕ
birth_of nothing = 0
birth_of (version v) = v.birth
birth_of (register r) = r.birth
birth_of (bad c) = 0

abbrev pub with_version : Saying → List Version → List Version
with_version nothing vs = vs
with_version (version v) vs = v ∷ vs
with_version (register r) vs = vs
with_version (bad c) vs = vs

unfoldable pub versions : List Saying → List Version
versions [] = []
versions (x ∷ xs) = with_version x (versions xs)

-- the greatest birth of all
unfoldable pub clock_of : List Saying → ℕ
clock_of [] = 0
clock_of (x ∷ xs) = max (birth_of x) (clock_of xs)

abbrev pub younger : Saying → Register → Register
younger nothing s = s
younger (version v) s = s
younger (register r) s = cond (nat_le s.birth r.birth) r s
younger (bad c) s = s

-- the youngest register
unfoldable pub latest : List Saying → Register
latest [] = record { birth = 0; held = []; label = [] }
latest (x ∷ xs) = younger x (latest xs)

-- the numbers that it holds, youngest first
abbrev pub held_by : List Saying → List ℕ
held_by xs = reverse (latest xs).held

unfoldable pub reading : List Saying → Reading
reading xs = reading_of (latest xs).label (clock_of xs) (held_by xs) (versions xs)

-- a version that passes a test, or a register of a birth
abbrev pub stays : (Version → Bool) → ℕ → Saying → Bool
stays p b nothing = false
stays p b (version v) = p v
stays p b (register r) = r.birth == b
stays p b (bad c) = false

-- what must stay: each needed version, and the youngest register
unfoldable pub must : List Saying → Saying → Bool
must xs x = stays (needed (held_by xs) (sort (versions xs))) (latest xs).birth x

-- A birth tells which saying it is, what is said has a birth, and there is a register.
pub record Told (xs : List Saying) : Type 0 where
  pub dated : (x : Saying) → In x xs → (x ≡ nothing) ⊎ (0 < birth_of x)
  pub once : (x y : Saying) → In x xs → In y xs → birth_of x ≡ birth_of y → x ≡ y
  pub begun : In (register (latest xs)) xs

-- ys says nothing new
abbrev pub Less : List Saying → List Saying → Type 0
Less xs ys = (x : Saying) → In x ys → (x ≡ nothing) ⊎ In x xs

-- ys has all that must stay
abbrev pub Holds : List Saying → List Saying → Type 0
Holds xs ys = (x : Saying) → In x xs → must xs x ≡ true → In x ys

-- The reading turns on what must stay alone.
abbrev pub MustSuffices : Type 0
MustSuffices = (xs ys : List Saying) → Told xs → Less xs ys → Holds xs ys → reading ys ≡ reading xs

-- And what is left is told as well, and needs the same.
abbrev pub MustStays : Type 0
MustStays = (xs ys : List Saying) → Told xs → Less xs ys → Holds xs ys → Told ys × ((x : Saying) → must ys x ≡ must xs x)
