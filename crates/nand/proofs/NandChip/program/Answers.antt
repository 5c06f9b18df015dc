use Rattle.std.proofs.Common.{rules, ◌≡◌, length, set, refl, ap, sym, ◌∙◌, arith}
use Rattle.chip.specs.Pages.{is_erased}
use Rattle.chip.proofs.Ways.{page_found, program_not_erased, program_granted}
use Rattle.nand.specs.Image.{nand_pages}
use Rattle.nand.proofs.Cut.{part_nand, page_nand, set_nand, kept_page, same_page}
use Rattle.nand.proofs.NandChip.program.Goals as goal

pub is_erased_at-requires : goal.is_erased_at-requires
is_erased_at-requires c =
    let bs = c.args.self.now.image.now in
    let f = page_found 32 (nand_pages bs) c.args.page.0 _ _ _ c.in_ok-block.ensures in
    let h = part_nand bs f in
    omega arith

pub returns-then-not-is_erased_at : goal.returns-then-not-is_erased_at
returns-then-not-is_erased_at c =
    let bs = c.args.self.now.image.now in
    let p = c.args.page.0 in
    let f = page_found 32 (nand_pages bs) p _ _ _ c.in_ok-block.ensures in
    let w = program_not_erased (nand_pages bs) p c.args.bytes.now f.inside f.whole (ap is_erased (page_nand bs f) ∙ sym c.is_erased_at.ensures ∙ c.if-not-is_erased_at.true) in
    record { kept = refl; same = refl; answer = w.0; after = w.1 }

pub slice_bounds-copy_from_slice-end : goal.slice_bounds-copy_from_slice-end
slice_bounds-copy_from_slice-end c =
    let bs = c.args.self.now.image.now in
    let f = page_found 32 (nand_pages bs) c.args.page.0 _ _ _ c.in_ok-block.ensures in
    let h = part_nand bs f in
    search rules

pub returns : goal.returns
returns c =
    let bs = c.args.self.now.image.now in
    let p = c.args.page.0 in
    let f = page_found 32 (nand_pages bs) p _ _ _ c.in_ok-block.ensures in
    let ys = c.copy_from_slice.new.self in
    let after = c.copy_from_slice.ensures.after in
    let long : length ys ≡ 528 = ap length after ∙ f.whole in
    let e = ap is_erased (page_nand bs f) ∙ sym c.is_erased_at.ensures ∙ c.if-not-is_erased_at.false in
    let w = program_granted (nand_pages bs) p c.args.bytes.now f.inside f.whole e _ (set_nand bs f ys long ∙ ap (set (nand_pages bs) p) after) in
    record { kept = kept_page bs f ys long c.args.self.now.image.ghost_name; same = same_page bs f ys long; answer = w.0; after = w.1 }
