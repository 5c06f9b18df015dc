-- The commands of the program `bench`, one to a line.
use Rattle.std.specs.Prelude.{ℕ, Bool, false, cond, List, [], ◌∷◌, length, Some, None, codes, Option, ◌==◌, nat_lt}
use Rattle.bench_lines.specs.Numbers.{number_to}
use Rattle.bench_lines.specs.Splits.{Parts, cut}
use Rattle.bench_lines.specs.declared.commands.Command.{Command}
use Rattle.bench_lines.specs.declared.commands.Command.TheVariants.{Write, Delete, Read, Look, Freeze, Release, Revert, Clean, Remount}

-- Whether a byte is the first of a text.
abbrev pub is : ℕ → List ℕ → Bool
is b [] = false
is b (x ∷ xs) = b == x

-- A command of a letter alone.
abbrev pub bare_of : ℕ → Option Command
bare_of letter =
    cond (is letter (codes "f")) (Some Freeze)
    (cond (is letter (codes "c")) (Some Clean)
    (cond (is letter (codes "z")) (Some Remount) None))

-- The number of a sector or of a state.
abbrev pub any_number : List ℕ → Option ℕ
any_number word = number_to 4294967295 word

abbrev pub with_number : ℕ → Option ℕ → Option Command
with_number letter None = None
with_number letter (Some n) =
    cond (is letter (codes "d")) (Some (Delete n))
    (cond (is letter (codes "r")) (Some (Read n))
    (cond (is letter (codes "x")) (Some (Release n))
    (cond (is letter (codes "v")) (Some (Revert n)) None)))

-- A command of a letter and a number.
abbrev pub one_of : ℕ → List ℕ → Option Command
one_of letter word = with_number letter (any_number word)

abbrev pub write : Option ℕ → Option ℕ → Option Command
write None fill = None
write (Some sector) None = None
write (Some sector) (Some fill) = Some (Write sector fill)

abbrev pub look : Option ℕ → Option ℕ → Option Command
look None sector = None
look (Some state) None = None
look (Some state) (Some sector) = Some (Look state sector)

abbrev pub write_of : List ℕ → List ℕ → Option Command
write_of sector fill = write (any_number sector) (number_to 255 fill)

abbrev pub look_of : List ℕ → List ℕ → Option Command
look_of state sector = look (any_number state) (any_number sector)

-- A command of a letter and two numbers.
abbrev pub two_of : ℕ → List ℕ → List ℕ → Option Command
two_of letter first second =
    cond (is letter (codes "w")) (write_of first second)
    (cond (is letter (codes "l")) (look_of first second) None)

abbrev pub with_parts : ℕ → List ℕ → Option Parts → Option Command
with_parts letter rest None = one_of letter rest
with_parts letter rest (Some pair) = two_of letter pair.0 pair.1

-- A command of a letter and what stands after the space: one number, or two with a space between them.
abbrev pub numbers_of : ℕ → List ℕ → Option Command
numbers_of letter rest = with_parts letter rest (cut 32 rest)

-- A command by its words, with one space between them.
abbrev pub words_of : List ℕ → Option Command
words_of [] = None
words_of (letter ∷ []) = bare_of letter
words_of (letter ∷ b ∷ rest) = cond (b == 32) (numbers_of letter rest) None

-- The command of a line, which has at most 40 bytes.
abbrev pub command_of : List ℕ → Option Command
command_of line = cond (nat_lt 40 (length line)) None (words_of line)
