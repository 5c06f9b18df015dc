use Rattle.std.proofs.Common.{Ok, refl, arith}
use Rattle.changing.proofs.Adding.{programmed, consistent, is_free, says_next, version_added}
use Rattle.changing.proofs.add_version.Goals as goal

pub returns-clause-adds : goal.returns-clause-adds
returns-clause-adds g c =
    let m = g.C.Chip in
    let chip = c.args.chip.now in
    let ix = c.args.ix.now in
    let s = c.args.sector.number in
    let image = c.args.image.now in
    let f = c.in_ok-page.ensures in
    let k = c.in_ok-page.page.0 in
    let pages₁ = m.pages c.free_page.new.chip in
    let ix₁ = c.free_page.new.ix in
    let p = c.program.ensures in
    λ content deletion next can room.
    let says = next.says (m.blocks chip) m.per (m.pages chip) can in
    let ready = f.readies can.opened in
    let done = programmed pages₁ k image c.program.result (m.pages c.program.new.self) ready.inside (omega arith) ready.free p.answer p.after in
    let added =
    c.note_version.ensures.added (m.blocks chip) m.per pages₁ image content (consistent (m.blocks chip) m.per pages₁ ix₁ ready.opened)
    (is_free (m.blocks chip) m.per (m.pages chip) ix can k pages₁ ix₁ ready)
    (says_next (m.blocks chip) m.per (m.pages chip) ix can k pages₁ ix₁ ready s content image says) deletion in
    version_added (m.blocks chip) m.per (m.pages chip) ix can k pages₁ ix₁ ready s content image says _ added room (Ok tt) refl _ done.1
