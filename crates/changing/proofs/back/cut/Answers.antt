use Rattle.std.proofs.Common.{◌≡◌, ℕ, ◌∙◌, subst}
use Rattle.tables.specs.declared.index.Index.{Index}
use Rattle.limits.specs.declared.types.Bounded.{Bounded}
use Rattle.room.specs.Choose.{MakesRoom}
use Rattle.moving.specs.Sound.{lasting}
use Rattle.moving.proofs.Copies.{not_both}
use Rattle.changing.specs.Back.{Rewound, cut_lasting}
use Rattle.changing.proofs.Cutting.{purged, cuts}
use Rattle.changing.proofs.Rewinding.{prepared}
use Rattle.changing.proofs.Returning.{cut_result}
use Rattle.changing.proofs.back.cut.Goals as goal

lasts : (ix : Index) (n : ℕ) (held : Bounded ℕ 8) (ix' : Index) → Rewound ix n held ix' → lasting ix' ≡ cut_lasting ix held
lasts ix n held ix' r = λ i. record { pages = r.counted i; clock = r.clock i; newest = r.newest i; held = r.holds i; label = r.label i }

pub returns-in_err-purge-clause-cuts : goal.returns-in_err-purge-clause-cuts
returns-in_err-purge-clause-cuts g c =
    let m = g.C.Chip in
    let chip = c.args.chip.now in
    let ix = c.args.ix.now in
    let w = c.rewind.ensures in
    let ix₁ = c.rewind.new.ix in
    let p = c.purge.ensures in
    λ can h.
    cut_result (m.blocks chip) m.per (m.pages chip) ix c.args.number c.args.held _ _ _ can h (p.lasting ∙ lasts ix c.args.number c.args.held ix₁ w) (λ left cuttable are.
    let o = can.opened in
    let prep = prepared (m.blocks chip) m.per (m.pages chip) ix c.args.number left c.args.held ix₁ o cuttable are w in
    let done = purged (m.blocks chip) m.per (m.pages chip) ix c.args.number left o cuttable m.shape.least ix₁ prep c.purge.result (m.pages c.purge.new.chip) c.purge.new.ix p.purged in
    absurd (not_both c.purge.result c.in_err-purge.field-0.0 c.in_err-purge.was done.ok))

pub returns-clause-cuts : goal.returns-clause-cuts
returns-clause-cuts g c =
    let m = g.C.Chip in
    let chip = c.args.chip.now in
    let ix = c.args.ix.now in
    let w = c.rewind.ensures in
    let ix₁ = c.rewind.new.ix in
    let p = c.purge.ensures in
    let q = c.make_room.ensures in
    let pages₂ = m.pages c.purge.new.chip in
    let ix₂ = c.purge.new.ix in
    let pages₃ = m.pages c.make_room.new.chip in
    let ix₃ = c.make_room.new.ix in
    λ can h.
    cut_result (m.blocks chip) m.per (m.pages chip) ix c.args.number c.args.held c.make_room.result pages₃ ix₃ can h (q.lasting ∙ p.lasting ∙ lasts ix c.args.number c.args.held ix₁ w) (λ left cuttable are.
    let o = can.opened in
    let prep = prepared (m.blocks chip) m.per (m.pages chip) ix c.args.number left c.args.held ix₁ o cuttable are w in
    let done = purged (m.blocks chip) m.per (m.pages chip) ix c.args.number left o cuttable m.shape.least ix₁ prep c.purge.result pages₂ ix₂ p.purged in
    let makes : MakesRoom (m.blocks chip) m.per pages₂ ix₂ c.args.number c.make_room.result pages₃ ix₃ =
    subst (λ b. MakesRoom b m.per pages₂ ix₂ c.args.number c.make_room.result pages₃ ix₃) p.same q.makes in
    cuts (m.blocks chip) m.per (m.pages chip) ix c.args.number left o cuttable m.shape.least ix₁ prep c.purge.result pages₂ ix₂ p.lasting done c.make_room.result pages₃ ix₃ makes)
