use Rattle.room.proofs.Rooms.{cleaned_none}
use Rattle.room.proofs.clean_block.Goals as goal

pub returns-in-None-clause-cleans : goal.returns-in-None-clause-cleans
returns-in-None-clause-cleans g c =
    let m = g.C.Chip in
    let chip = c.args.chip.now in
    let ix = c.args.ix.now in
    λ link last_birth sound last.
    cleaned_none (m.blocks chip) m.per (m.pages chip) ix link last_birth c.args.limit sound m.shape.least c.in-None.ensures
