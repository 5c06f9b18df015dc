-- The limits of the numbers that a page holds.
use Rattle.std.specs.Prelude.{ℕ, Bool, true, cond, ◌&&◌, List, [], ◌∷◌, Some, None, Option, nat_le, nat_lt}

-- A number, if it is from `low` to `high`.
abbrev pub within : ℕ → ℕ → ℕ → Option ℕ
within low high n = cond (nat_le low n && nat_le n high) (Some n) None

-- Whether each number is above the one before it, the first above `low`, and none above `top`.
abbrev pub rising : ℕ → ℕ → List ℕ → Bool
rising low top [] = true
rising low top (n ∷ ns) = nat_lt low n && (nat_le n top && rising n top ns)
