use Rattle.std.proofs.Common.{◌≡◌, string_bytes}
use Rattle.store.specs.Views.{seen, reading_of}
use Rattle.mount_report.specs.Lines.{entries}
use Rattle.mount_report.proofs.mounted.Mounted.entries_text.Given as goal

abbrev pub invariant-loop-sector : goal.invariant-loop-sector
invariant-loop-sector g l =
    string_bytes l.text ≡ entries (reading_of (seen g.C.Chip l.self.store.now)) l.frozen l.sector
