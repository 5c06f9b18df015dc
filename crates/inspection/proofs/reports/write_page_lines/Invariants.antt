use Rattle.std.proofs.Common.{◌≡◌, ◌++◌, take, drop, string_bytes}
use Rattle.inspection.specs.Reports.{tally_of, page_lines}
use Rattle.inspection.proofs.reports.write_page_lines.Given as goal

abbrev pub invariant-loop-index : goal.invariant-loop-index
invariant-loop-index g l =
    let pages = g.C.Chip.pages l.chip in
    let lines = page_lines g.C.Chip.per in
    (l.tally ≡ tally_of (take l.index pages)) × (string_bytes l.text ++ lines l.index (drop l.index pages) ≡ string_bytes l.initial.text ++ lines 0 pages)
