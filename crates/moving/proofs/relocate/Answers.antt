use Rattle.std.proofs.Common.{◌*◌, Ok, sym, refl, ap, ◌∙◌, subst, arith}
use Rattle.chip.specs.Pages.{pages_erased}
use Rattle.moving.specs.Sound.{page_stays}
use Rattle.moving.specs.Moves.{Copyable, Copied, forgotten_at}
use Rattle.moving.proofs.Copies.{not_both}
use Rattle.moving.proofs.Relocations.{source, target, copyable, relocated}
use Rattle.moving.proofs.relocate.Goals as goal
use Rattle.moving.proofs.relocate.Goals.{then-from-per-via-then-from-per, then-from-per-via-else-from-per+then-to-per}

pub returns-then-from-per-clause-done : goal.returns-then-from-per-clause-done
returns-then-from-per-clause-done g c =
    let m = g.C.Chip in
    let chip = c.args.chip.now in
    let ix = c.args.ix.now in
    let per_is = c.block_pages-per.ensures in
    λ link last_birth sound last h two.
    let n = sound.counted in
    let x = ap (λ p. c.args.victim.0 * p) per_is in
    let y = ap (λ p. ix.spare.0 * p) per_is in
    let a = source (m.blocks chip) m.per (m.pages chip) ix link last_birth c.args.limit c.args.victim.0 sound last h two in
    let b = target (m.blocks chip) m.per (m.pages chip) ix link last_birth c.args.limit c.args.victim.0 sound last h two in
    elim c.then-from-per.branch [
      | then-from-per-via-then-from-per w ↦ let t = w.if-from-per.true in absurd (omega arith)
      | then-from-per-via-else-from-per+then-to-per w ↦ let t = w.if-to-per.true in absurd (omega arith)
    ]

pub returns-in_err-copy_staying-clause-done : goal.returns-in_err-copy_staying-clause-done
returns-in_err-copy_staying-clause-done g c =
    let m = g.C.Chip in
    let chip = c.args.chip.now in
    let ix = c.args.ix.now in
    let victim = c.args.victim.0 in
    let e = c.copy_staying.ensures in
    λ link last_birth sound last h two.
    let p = copyable (m.blocks chip) m.per (m.pages chip) ix link last_birth c.args.limit victim sound last h two in
    let p' = subst (λ n. Copyable (m.blocks chip) m.per (m.pages chip) ix link last_birth c.args.limit (victim * n) (ix.spare.0 * n)) (sym c.block_pages-per.ensures) p in
    absurd (not_both c.copy_staying.result c.in_err-copy_staying.field-0.0 c.in_err-copy_staying.was (e.copied link last_birth p').0)

pub returns-clause-done : goal.returns-clause-done
returns-clause-done g c =
    let m = g.C.Chip in
    let chip = c.args.chip.now in
    let ix = c.args.ix.now in
    let victim = c.args.victim.0 in
    let limit = c.args.limit in
    let per_is = c.block_pages-per.ensures in
    let e = c.copy_staying.ensures in
    let f = c.erase.ensures in
    let h' = c.forget.ensures in
    let pages₁ = m.pages c.copy_staying.new.chip in
    let ix₁ = c.copy_staying.new.ix in
    λ link last_birth sound last h two.
    let p = copyable (m.blocks chip) m.per (m.pages chip) ix link last_birth limit victim sound last h two in
    let p' = subst (λ n. Copyable (m.blocks chip) m.per (m.pages chip) ix link last_birth limit (victim * n) (ix.spare.0 * n)) (sym per_is) p in
    let d = subst (λ n. Copied (page_stays ix limit) (victim * n) (ix.spare.0 * n) m.per (m.pages chip) ix pages₁ ix₁) per_is (e.copied link last_birth p').1 in
    relocated (m.blocks chip) m.per (m.pages chip) ix link last_birth limit victim sound last h two pages₁ ix₁ d
    (m.pages c.erase.new.self) _
    (f.after ∙ ap (λ n. pages_erased m.per n pages₁ victim) e.same)
    (λ k. h'.records k ∙ ap (λ n. forgotten_at ix₁.records (victim * n) n k) per_is)
    h'.map refl (h'.lasting ∙ e.lasting) (Ok tt) refl
