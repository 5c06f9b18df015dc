use Rattle.std.proofs.Common.{◌≡◌, ℕ, ◌+◌, ◌<◌, true, false, get_or, sym, refl, ap, ◌∙◌, subst, arith}
use Rattle.limits.specs.Values.{held_of}
use Rattle.tables.specs.declared.index.Index.{Index}
use Rattle.tables.specs.Records.{unused}
use Rattle.moving.specs.Sound.{page_stays, record_stays, Lasting, lasting}
use Rattle.moving.specs.Moves.{Copied}
use Rattle.moving.proofs.Copies.{not_both, movable, record_there, copied_more, copied_left}
use Rattle.moving.proofs.copy_staying.Goals as goal
use Rattle.moving.proofs.copy_staying.Goals.{then-page_stays+in_ok-move_page, else-page_stays}

-- The page decides as it did before the loop.
decides : (ix ix' : Index) (limit k : ℕ) → lasting ix' ≡ lasting ix → get_or ix'.records k unused ≡ get_or ix.records k unused → page_stays ix' limit k ≡ page_stays ix limit k
decides ix ix' limit k e f =
    ap (λ (l : Lasting). record_stays (held_of l.held) l.newest limit (get_or ix'.records k unused)) e
    ∙ ap (record_stays (held_of ix.held) ix.newest limit) f

pub returns-in_err-move_page-clause-copied : goal.returns-in_err-move_page-clause-copied
returns-in_err-move_page-clause-copied g c =
    let m = g.C.Chip in
    let inv = c.loop-i.invariant in
    let e = c.move_page.ensures in
    let per_is = c.block_pages-per.ensures in
    let h : c.loop-i.i < m.per = omega arith in
    λ link last_birth p.
    let ok = (e.moved (movable (m.blocks c.args.chip.now) m.per (m.pages c.args.chip.now) c.args.ix.now link last_birth c.args.limit c.args.from c.args.to p c.loop-i.i h (m.pages c.loop-i.chip) c.loop-i.ix (inv.3 link last_birth p))).ok in
    absurd (not_both c.move_page.result c.in_err-move_page.field-0.0 c.in_err-move_page.was ok)

pub loop-i-preserved : goal.loop-i-preserved
loop-i-preserved g c =
    let m = g.C.Chip in
    let inv = c.loop-i.invariant in
    let blocks = m.blocks c.args.chip.now in
    let pages = m.pages c.args.chip.now in
    let ix = c.args.ix.now in
    let limit = c.args.limit in
    let from = c.args.from in
    let to = c.args.to in
    let i = c.loop-i.i in
    let pages' = m.pages c.loop-i.chip in
    let ix' = c.loop-i.ix in
    let per_is = c.block_pages-per.ensures in
    let h : i < m.per = omega arith in
    elim c.if-page_stays.branch [
      | then-page_stays+in_ok-move_page w ↦
          let e = w.move_page.ensures in (
            ap m.kept w.chip-is ∙ e.kept ∙ inv.0,
            ap m.blocks w.chip-is ∙ e.same ∙ inv.1,
            ap lasting w.ix-is ∙ e.lasting ∙ inv.2,
            λ link last_birth p.
                let d = inv.3 link last_birth p in
                let there = record_there blocks m.per pages ix link last_birth limit from to p i h pages' ix' d in
                let t : page_stays ix limit (from + i) ≡ true = sym (decides ix ix' limit (from + i) inv.2 there) ∙ sym c.page_stays.ensures ∙ w.if-page_stays.true in
                let moved = e.moved (movable blocks m.per pages ix link last_birth limit from to p i h pages' ix' d) in
                rw (w.chip-is, w.ix-is) (copied_more blocks m.per pages ix link last_birth limit from to p i h pages' ix' d t _ _ _ moved),
          )
      | else-page_stays w ↦ (
        ap m.kept w.chip-is ∙ inv.0,
        ap m.blocks w.chip-is ∙ inv.1,
        ap lasting w.ix-is ∙ inv.2,
        λ link last_birth p.
            let d = inv.3 link last_birth p in
            let there = record_there blocks m.per pages ix link last_birth limit from to p i h pages' ix' d in
            let t : page_stays ix limit (from + i) ≡ false = sym (decides ix ix' limit (from + i) inv.2 there) ∙ sym c.page_stays.ensures ∙ w.if-page_stays.false in
            rw (w.chip-is, w.ix-is) (copied_left blocks m.per pages ix link last_birth limit from to p i h pages' ix' d t),
      )
    ]

pub returns-clause-copied : goal.returns-clause-copied
returns-clause-copied g c =
    let m = g.C.Chip in
    let inv = c.loop-i.invariant in
    let end : c.loop-i.i ≡ m.per = omega arith in
    λ link last_birth p.
    (refl, subst (λ n. Copied (page_stays c.args.ix.now c.args.limit) c.args.from c.args.to n (m.pages c.args.chip.now) c.args.ix.now (m.pages c.loop-i.chip) c.loop-i.ix) end (inv.3 link last_birth p))
