use Rattle.keeping.specs.Opened.{link_in, last_birth_in}
use Rattle.keeping.proofs.Opened.{opened_is_sound, last_stays}
use Rattle.changing.proofs.Cleaning.{sweeps}
use Rattle.changing.proofs.clean.Goals as goal

pub returns-clause-cleans : goal.returns-clause-cleans
returns-clause-cleans g c =
    let m = g.C.Chip in
    let chip = c.args.chip.now in
    let ix = c.args.ix.now in
    let e = c.clean_block.ensures in
    let pages = m.pages chip in
    λ o.
    sweeps (m.blocks chip) m.per pages ix o (m.pages c.clean_block.new.chip) c.clean_block.new.ix e.lasting c.clean_block.result
    (e.cleans (link_in pages ix) (last_birth_in pages ix) (opened_is_sound (m.blocks chip) m.per pages ix o) (last_stays (m.blocks chip) m.per pages ix o))
