-- The calls that commands make on a store.
use Rattle.std.specs.Prelude.{ℕ, Bool, true, false, cond, List, [], ◌∷◌, ◌++◌, Some, None, Option, slice_index_or}
use Rattle.bench_lines.specs.declared.commands.Command.{Command}
use Rattle.bench_lines.specs.declared.commands.Command.TheVariants as command
use Rattle.rules.specs.Calls.{Call, mount, close, clean, freeze, write, delete, read, look, release, revert}

-- The first or only call of a command. The sector filled with byte k stands at k in `fills`.
abbrev pub first_call : List (List ℕ) → Command → Call
first_call fills (command.Write sector fill) = write sector (slice_index_or fills fill [])
first_call fills (command.Delete sector) = delete sector
first_call fills (command.Read sector) = read sector (slice_index_or fills 0 [])
first_call fills (command.Look state sector) = look state sector (slice_index_or fills 0 [])
first_call fills command.Freeze = freeze
first_call fills (command.Release state) = release state
first_call fills (command.Revert state) = revert state
first_call fills command.Clean = clean
first_call fills command.Remount = close

abbrev pub is_remount : Command → Bool
is_remount (command.Write sector fill) = false
is_remount (command.Delete sector) = false
is_remount (command.Read sector) = false
is_remount (command.Look state sector) = false
is_remount command.Freeze = false
is_remount (command.Release state) = false
is_remount (command.Revert state) = false
is_remount command.Clean = false
is_remount command.Remount = true

-- A remount is a close, then a mount.
abbrev pub calls_for : List (List ℕ) → Command → List Call
calls_for fills c = first_call fills c ∷ cond (is_remount c) (mount ∷ []) []

-- A line that is no command makes no call.
abbrev pub calls_in : List (List ℕ) → List (Option Command) → List Call
calls_in fills [] = []
calls_in fills (None ∷ lines) = calls_in fills lines
calls_in fills (Some c ∷ lines) = calls_for fills c ++ calls_in fills lines
