use Rattle.std.proofs.Common.{◌≡◌, ◌++◌, take, string_bytes}
use Rattle.store.specs.Views.{seen, reading_of}
use Rattle.mount_report.specs.Lines.{state_lines}
use Rattle.mount_report.proofs.mounted.Mounted.push_state_lines.Given as goal

abbrev pub invariant-loop-number : goal.invariant-loop-number
invariant-loop-number g l =
    string_bytes l.text ≡ string_bytes l.initial.text ++ state_lines (reading_of (seen g.C.Chip l.self.store.now)) (take l.number-index l.numbers)
