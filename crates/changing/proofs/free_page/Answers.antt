use Rattle.keeping.specs.Opened.{link_in, last_birth_in}
use Rattle.keeping.proofs.Opened.{opened_is_sound, last_stays}
use Rattle.keeping.proofs.Room.{there_is_room}
use Rattle.changing.proofs.Cleaning.{readies}
use Rattle.changing.proofs.free_page.Goals as goal

pub returns-clause-readies : goal.returns-clause-readies
returns-clause-readies g c =
    let m = g.C.Chip in
    let chip = c.args.chip.now in
    let ix = c.args.ix.now in
    let e = c.make_room.ensures in
    let pages = m.pages chip in
    λ o.
    readies (m.blocks chip) m.per pages ix o (m.pages c.make_room.new.chip) c.make_room.new.ix e.lasting c.make_room.result
    (e.makes (link_in pages ix) (last_birth_in pages ix) (opened_is_sound (m.blocks chip) m.per pages ix o) (last_stays (m.blocks chip) m.per pages ix o)
    (there_is_room (m.blocks chip) m.per pages ix o m.shape.least))
