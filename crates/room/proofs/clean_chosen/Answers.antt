use Rattle.moving.proofs.Copies.{not_both}
use Rattle.room.proofs.Rooms.{cleaned_one}
use Rattle.room.proofs.clean_chosen.Goals as goal

pub returns-in_err-relocate-clause-cleans : goal.returns-in_err-relocate-clause-cleans
returns-in_err-relocate-clause-cleans g c =
    let e = c.relocate.ensures in
    λ ch link last_birth sound last.
    absurd (not_both c.relocate.result c.in_err-relocate.field-0.0 c.in_err-relocate.was (e.done link last_birth sound last ch.0 ch.1).ok)

pub returns-clause-cleans : goal.returns-clause-cleans
returns-clause-cleans g c =
    let m = g.C.Chip in
    let chip = c.args.chip.now in
    let ix = c.args.ix.now in
    let e = c.relocate.ensures in
    λ ch link last_birth sound last.
    cleaned_one (m.blocks chip) m.per (m.pages chip) ix link last_birth c.args.limit sound m.shape.least c.args.victim ch c.relocate.result
    (m.pages c.relocate.new.chip) c.relocate.new.ix (e.done link last_birth sound last ch.0 ch.1) c.count_stale-lost.result c.count_stale-lost.ensures
