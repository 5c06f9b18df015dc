-- Bytes cut at a separator.
use Rattle.std.specs.Prelude.{ℕ, ◌+◌, List, take, drop, Option, ◌==◌, position}
use Rattle.std.specs.Option.{option_map}
use Rattle.std.specs.Borrow.{Bor}

-- A front part and a back part.
abbrev pub Parts : Type 0
Parts = List ℕ × List ℕ

abbrev pub parts : Bor (List ℕ) × Bor (List ℕ) → Parts
parts pair = (pair.0.now, pair.1.now)

-- The parts before and after an index.
abbrev pub cut_at : List ℕ → ℕ → Parts
cut_at bytes at = (take at bytes, drop (at + 1) bytes)

-- The bytes before the first separator and those after it, where there is one.
abbrev pub cut : ℕ → List ℕ → Option Parts
cut separator bytes = option_map (cut_at bytes) (position (λ b. b == separator) bytes)
