-- What the program prints: a row for each line of its input.
use Rattle.std.specs.Prelude.{ℕ, List, [], ◌∷◌, ◌++◌, Some, None, codes, decimal, Option}
use Rattle.bench_lines.specs.declared.commands.Command.{Command}
use Rattle.bench_lines.specs.declared.commands.Command.TheVariants.{Write, Delete, Read, Look, Freeze, Release, Revert, Clean, Remount}
use Rattle.bench_lines.specs.declared.replies.Reply.{Reply}

abbrev pub letter_of : Command → List ℕ
letter_of (Write sector fill) = codes "w"
letter_of (Delete sector) = codes "d"
letter_of (Read sector) = codes "r"
letter_of (Look state sector) = codes "l"
letter_of Freeze = codes "f"
letter_of (Release state) = codes "x"
letter_of (Revert state) = codes "v"
letter_of Clean = codes "c"
letter_of Remount = codes "z"

abbrev pub value_text : Option ℕ → List ℕ
value_text None = codes "-"
value_text (Some value) = decimal value

-- Words with a space between them, and a line feed.
abbrev pub line_of : List (List ℕ) → List ℕ
line_of [] = 10 ∷ []
line_of (word ∷ []) = word ++ (10 ∷ [])
line_of (word ∷ next ∷ words) = word ++ (32 ∷ line_of (next ∷ words))

-- The row of a command: its letter, the number of the reply, and the value or `-`.
abbrev pub row_of : Command → Reply → List ℕ
row_of command reply = line_of (letter_of command ∷ decimal reply.number ∷ value_text reply.value ∷ [])

-- The row of each line: `?` where the line is no command, else the row of the command with the next reply.
-- The rows end where the replies run out.
abbrev pub rows_of : List (Option Command) → List Reply → List ℕ
rows_of [] replies = []
rows_of (None ∷ lines) replies = line_of (codes "?" ∷ []) ++ rows_of lines replies
rows_of (Some command ∷ lines) [] = []
rows_of (Some command ∷ lines) (reply ∷ replies) = row_of command reply ++ rows_of lines replies
