use Rattle.std.proofs.Common.{suc, ap, ◌∙◌, arith}
use Rattle.limits.specs.Numbers.{rising}
use Rattle.limits.specs.Values.{held_of, label_of}
use Rattle.readings.specs.Sayings.{register}
use Rattle.moving.specs.Sound.{Lasting}
use Rattle.moving.proofs.Copies.{not_both}
use Rattle.changing.proofs.Adding.{programmed}
use Rattle.changing.proofs.Registering.{kept_rises}
use Rattle.changing.proofs.Returning.{after_cut, went_back_lem, never_back}
use Rattle.changing.proofs.back.settle.Goals as goal

pub returns-in_err-image-clause-back : goal.returns-in_err-image-clause-back
returns-in_err-image-clause-back g c =
    let held = held_of c.args.held in
    let ix = c.args.ix.now in
    λ blocks per pages old was.
    never_back blocks per pages old c.args.number held _ _ _ was.was_held (λ left cuttable are.
    c.in_err-image.ensures.says
    (ap (λ b. rising 0 b held) (after_cut blocks per pages old c.args.number c.args.held _ _ ix was) ∙ kept_rises blocks per pages old was.can held left are))

pub returns-in_err-program-clause-back : goal.returns-in_err-program-clause-back
returns-in_err-program-clause-back g c =
    let m = g.C.Chip in
    let p = c.program.ensures in
    let k = c.args.page.0 in
    λ blocks per pages old was.
    never_back blocks per pages old c.args.number (held_of c.args.held) _ _ _ was.was_held (λ left cuttable are.
    let down = was.cut left cuttable are in
    let done = programmed (m.pages c.args.chip.now) k c.in_ok-image.image c.program.result (m.pages c.program.new.self) down.inside (omega arith) down.free p.answer p.after in
    not_both c.program.result c.in_err-program.field-0.0 c.in_err-program.was done.0)

pub returns-clause-back : goal.returns-clause-back
returns-clause-back g c =
    let m = g.C.Chip in
    let ix = c.args.ix.now in
    let held = held_of c.args.held in
    let p = c.program.ensures in
    let k = c.args.page.0 in
    let image = c.in_ok-image.image in
    let pages₃ = m.pages c.args.chip.now in
    let pages₄ = m.pages c.program.new.self in
    let u = c.unlink_all.ensures in
    λ blocks per pages old was.
    let says =
    c.in_ok-image.ensures.says
    ∙ ap (λ b. register (record { birth = b; held = held; label = label_of ix.label })) (after_cut blocks per pages old c.args.number c.args.held k pages₃ ix was)
    ∙ ap (λ (l : Lasting). register (record { birth = suc old.clock; held = held; label = label_of l.label })) was.lasts in
    went_back_lem blocks per pages old c.args.number was.can c.args.held k pages₃ ix was.lasts image says
    c.note_register.new.ix c.note_register.ensures.memory c.unlink_all.new.ix u.records u.map u.spare u.lasting pages₄ was.was_held was.cut
    (λ inside free. (programmed pages₃ k image c.program.result pages₄ inside (omega arith) free p.answer p.after).1)
