-- The lines of the program's input.
use Rattle.std.specs.Prelude.{ℕ, cond, List, [], ◌∷◌, map, Option, ◌==◌}
use Rattle.bench_lines.specs.Commands.{command_of}
use Rattle.bench_lines.specs.declared.commands.Command.{Command}

-- A byte more at the front of the first line.
abbrev pub on_first : ℕ → List (List ℕ) → List (List ℕ)
on_first b [] = (b ∷ []) ∷ []
on_first b (line ∷ lines) = (b ∷ line) ∷ lines

-- The lines of an input, each without the line feed that ends it. The last line may lack its line feed.
abbrev pub lines_of : List ℕ → List (List ℕ)
lines_of [] = []
lines_of (b ∷ bs) = cond (b == 10) ([] ∷ lines_of bs) (on_first b (lines_of bs))

-- The command of each line.
abbrev pub commands_in : List ℕ → List (Option Command)
commands_in input = map command_of (lines_of input)
