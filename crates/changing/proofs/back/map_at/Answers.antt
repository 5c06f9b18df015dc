use Rattle.std.proofs.Common.{◌≡◌, ℕ, sym, refl, ap, ◌∙◌, add-one, arith}
use Rattle.std.proofs.lemmas.List.{get_or-replicate, length-take-le}
use Rattle.noting.specs.Lookups.{found_below}
use Rattle.changing.specs.Back.{map_entry, entered}
use Rattle.changing.proofs.Rewinding.{entry_none, entry_more}
use Rattle.changing.proofs.back.map_at.Goals as goal

pub loop-page-init : goal.loop-page-init
loop-page-init c =
    let ix = c.args.ix.now in
    (refl, λ s h. get_or-replicate {A = ℕ} 2048 s 65535 0 h ∙ entry_none ix.records ix.long c.args.number s)

pub loop-page-preserved : goal.loop-page-preserved
loop-page-preserved c =
    let ix = c.args.ix.now in
    let few = ix.few in
    let long = ix.long in
    let n = c.args.number in
    let k = c.loop-page.page in
    let inv = c.loop-page.invariant in (
      c.enter.array_long,
      λ s h.
          c.enter.ensures s h ∙ ap (entered ix.records n k s) (inv.1 s h) ∙ entry_more ix.records ix.long n s k (omega (arith, ix.few, length-take-le ix.pages ix.records (omega arith)))
          ∙ ap (λ j. map_entry (found_below ix.records n s j).page) (sym (add-one k)),
    )

pub returns : goal.returns
returns c =
    let ix = c.args.ix.now in
    let few = ix.few in
    let long = ix.long in
    let end : c.loop-page.page ≡ ix.pages = omega (arith, length-take-le ix.pages ix.records (omega arith)) in
    record { wide = c.loop-page.invariant.0; entries = λ s h. c.loop-page.invariant.1 s h ∙ ap (λ j. map_entry (found_below ix.records c.args.number s j).page) end }
