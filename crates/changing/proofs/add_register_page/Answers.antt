use Rattle.std.proofs.Common.{Ok, refl, arith}
use Rattle.limits.specs.Values.{held_of}
use Rattle.changing.proofs.Adding.{programmed, consistent, is_free}
use Rattle.changing.proofs.Registering.{says_register, registered}
use Rattle.changing.proofs.add_register_page.Goals as goal

pub returns-clause-registers : goal.returns-clause-registers
returns-clause-registers g c =
    let m = g.C.Chip in
    let chip = c.args.chip.now in
    let ix = c.args.ix.now in
    let held = held_of c.args.held in
    let image = c.args.image.now in
    let f = c.in_ok-page.ensures in
    let k = c.in_ok-page.page.0 in
    let pages₁ = m.pages c.free_page.new.chip in
    let ix₁ = c.free_page.new.ix in
    let p = c.program.ensures in
    λ says can.
    let ready = f.readies can.opened in
    let done = programmed pages₁ k image c.program.result (m.pages c.program.new.self) ready.inside (omega arith) ready.free p.answer p.after in
    registered (m.blocks chip) m.per (m.pages chip) ix can k pages₁ ix₁ ready held image says _
    (c.note_register.ensures.added (m.blocks chip) m.per pages₁ image (consistent (m.blocks chip) m.per pages₁ ix₁ ready.opened)
    (is_free (m.blocks chip) m.per (m.pages chip) ix can k pages₁ ix₁ ready)
    (says_register (m.blocks chip) m.per (m.pages chip) ix can k pages₁ ix₁ ready held image says)) (Ok tt) refl _ done.1
