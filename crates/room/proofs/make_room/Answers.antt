use Rattle.std.proofs.Common.{sym, subst, arith}
use Rattle.room.specs.Choose.{Found}
use Rattle.room.proofs.Blocks.{found_first}
use Rattle.room.proofs.Rooms.{placed_still}
use Rattle.room.proofs.make_room.Goals as goal

pub returns-in-Some-clause-makes : goal.returns-in-Some-clause-makes
returns-in-Some-clause-makes g c =
    let m = g.C.Chip in
    let chip = c.args.chip.now in
    let ix = c.args.ix.now in
    let least = m.shape.least in
    λ link last_birth sound last fits.
    placed_still (m.blocks chip) m.per (m.pages chip) ix link last_birth c.args.limit sound least c.in-Some.page
    (subst (Found ix m.per) (sym c.in-Some.ensures) (found_first m.per ix (omega arith)))
