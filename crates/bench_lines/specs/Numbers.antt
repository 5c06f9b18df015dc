-- Numbers in decimal digits.
use Rattle.std.specs.Prelude.{ℕ, ◌+◌, ◌-◌, ◌*◌, Bool, false, cond, ◌&&◌, List, [], ◌∷◌, Some, None, fold, Option, nat_le}
use Rattle.std.specs.Char.{is_ascii_digit}
use Rattle.std.specs.Str.{all_ascii_digits}

-- A number with the digit of a byte put after its last.
abbrev pub longer : ℕ → ℕ → ℕ
longer n b = n * 10 + (b - 48)

-- The number that digits say.
abbrev pub said : List ℕ → ℕ
said bs = fold longer 0 bs

-- One or more digits; leading zeros are allowed.
abbrev pub is_number : List ℕ → Bool
is_number [] = false
is_number (b ∷ bs) = all_ascii_digits (b ∷ bs)

-- The number that a word says, if it says one that is not above `most`.
abbrev pub number_to : ℕ → List ℕ → Option ℕ
number_to most word = cond (is_number word && nat_le (said word) most) (Some (said word)) None

-- One digit more to a number so far.
abbrev pub with_digit : ℕ → ℕ → ℕ → Option ℕ
with_digit most n b = cond (is_ascii_digit b && nat_le (longer n b) most) (Some (longer n b)) None
