use Rattle.inspection.proofs.Totals.{tally_fits}
use Rattle.inspection.proofs.reports.write_page_lines.Goals as goal

pub count-requires : goal.count-requires
count-requires g c =
    tally_fits g.C.Chip.shape c.args.chip.now c.loop-index.index c.loop-index.invariant.0
