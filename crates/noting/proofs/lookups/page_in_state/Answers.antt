use Rattle.std.proofs.Common.{◌≡◌, sym, refl, ap, ◌∙◌, subst, arith}
use Rattle.readings.specs.Sayings.{sayings}
use Rattle.readings.specs.Reading.{reading}
use Rattle.readings.specs.Changes.{in_state}
use Rattle.noting.specs.Lookups.{Found, found_below, Shows, page_in_state}
use Rattle.noting.proofs.Youngest.{found_here, found_other, found_older, shows_in_state}
use Rattle.noting.proofs.lookups.page_in_state.Goals as goal
use Rattle.noting.proofs.lookups.page_in_state.Goals.{then-is_version_of+then-birth-saved, else-is_version_of, else-is_version_of-via-then-is_version_of+else-birth-saved, else-is_version_of-via-else-is_version_of}

pub loop-i-init : goal.loop-i-init
unfolding found_below
loop-i-init c = refl

pub loop-i-preserved : goal.loop-i-preserved
loop-i-preserved c =
    let ix = c.args.ix.now in
    let f : Found = record { page = c.loop-i.found; birth = c.loop-i.birth } in
    let n = c.args.number in
    let s = c.args.sector.number in
    let i = c.loop-i.i in
    let r = c.at-saved.result in
    let is = c.at-saved.ensures in
    let inv = c.loop-i.invariant in
    elim c.if-is_version_of.branch [
      | then-is_version_of+then-birth-saved w ↦
          rw (w.found-is, w.birth-is) (found_here ix.records n s i r is f inv (sym c.is_version_of.ensures ∙ w.if-is_version_of.true) w.if-birth-saved.true)
      | else-is_version_of w ↦
          rw (w.found-is, w.birth-is) (elim w.else-is_version_of.branch [
            | else-is_version_of-via-then-is_version_of+else-birth-saved u ↦ found_older ix.records n s i r is f inv u.if-birth-saved.false
            | else-is_version_of-via-else-is_version_of u ↦ found_other ix.records n s i r is f inv (sym c.is_version_of.ensures ∙ u.if-is_version_of.false)
          ])
    ]

pub returns : goal.returns
returns c =
    let ix = c.args.ix.now in
    let n = c.args.number in
    let s = c.args.sector.number in
    let end : c.loop-i.i ≡ ix.pages = omega arith in
    let e : c.loop-i.found ≡ page_in_state ix n s = ap (λ (f : Found). f.page) (c.loop-i.invariant ∙ ap (found_below ix.records n s) end) in
    record { page = e; shows = λ blocks per pages con held. subst (λ r. Shows pages r (in_state (reading (sayings pages)) n s)) (sym e) (shows_in_state blocks per pages ix con n s held) }
