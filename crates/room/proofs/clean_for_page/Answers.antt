use Rattle.std.proofs.Common.{Some, None, Option, sym, ◌∙◌, subst, arith}
use Rattle.std.specs.Option.{ok_or}
use Rattle.chip.specs.declared.ChipFault.TheVariants.{NotErased}
use Rattle.chip.specs.declared.PageNumber.{PageNumber}
use Rattle.moving.proofs.Copies.{not_both}
use Rattle.room.specs.Choose.{Found, first_free, Chosen, Makes}
use Rattle.room.proofs.Blocks.{found_first}
use Rattle.room.proofs.Rooms.{some_stale, placed_after, some_erased}
use Rattle.room.proofs.clean_for_page.Goals as goal

pub returns-in_err-victim-clause-makes : goal.returns-in_err-victim-clause-makes
returns-in_err-victim-clause-makes g c =
    let m = g.C.Chip in
    let chip = c.args.chip.now in
    let ix = c.args.ix.now in
    let least = m.shape.least in
    λ none link last_birth sound last fits.
    absurd (some_stale (m.blocks chip) m.per (m.pages chip) ix link last_birth c.args.limit sound least fits (subst (Found ix m.per) none (found_first m.per ix (omega arith)))
    (subst (Chosen ix c.args.limit m.per (m.blocks chip)) c.in_err-victim.ensures.ok_part c.choose_victim.ensures))

pub returns-in_err-relocate-clause-makes : goal.returns-in_err-relocate-clause-makes
returns-in_err-relocate-clause-makes g c =
    let m = g.C.Chip in
    let e = c.relocate.ensures in
    let ch = subst (Chosen c.args.ix.now c.args.limit m.per (m.blocks c.args.chip.now)) c.in_ok-victim.ensures.ok_part c.choose_victim.ensures in
    λ none link last_birth sound last fits.
    absurd (not_both c.relocate.result c.in_err-relocate.field-0.0 c.in_err-relocate.was (e.done link last_birth sound last ch.0 ch.1).ok)

pub returns-clause-makes : goal.returns-clause-makes
returns-clause-makes g c =
    let m = g.C.Chip in
    let chip = c.args.chip.now in
    let ix = c.args.ix.now in
    let limit = c.args.limit in
    let e = c.relocate.ensures in
    let victim = c.in_ok-victim.victim in
    let ch = subst (Chosen ix limit m.per (m.blocks chip)) c.in_ok-victim.ensures.ok_part c.choose_victim.ensures in
    let pages' = m.pages c.relocate.new.chip in
    let ix' = c.relocate.new.ix in
    let least = m.shape.least in
    λ none link last_birth sound last fits.
    let done = e.done link last_birth sound last ch.0 ch.1 in
    let full = subst (Found ix m.per) none (found_first m.per ix (omega arith)) in
    let go : (o : Option PageNumber) → Found ix' m.per o → Makes (m.blocks chip) m.per (m.pages chip) ix link last_birth limit (ok_or o NotErased) pages' ix' = λ o. elim o as (λ o. Found ix' m.per o → Makes (m.blocks chip) m.per (m.pages chip) ix link last_birth limit (ok_or o NotErased) pages' ix') [
      | Some page ↦ λ f. placed_after (m.blocks chip) m.per (m.pages chip) ix link last_birth limit sound least victim ch c.relocate.result pages' ix' done done.ok full page f
      | None ↦ λ f. some_erased (m.blocks chip) m.per (m.pages chip) ix link last_birth limit sound least victim ch c.relocate.result pages' ix' done f
    ] in
    let made = go (first_free ix' m.per) (found_first m.per ix' (omega arith)) in
    subst (λ r. Makes (m.blocks chip) m.per (m.pages chip) ix link last_birth limit r pages' ix') (sym (c.ok_or-2.ensures.value ∙ (λ i. ok_or (c.find_erased.ensures i) NotErased))) made
