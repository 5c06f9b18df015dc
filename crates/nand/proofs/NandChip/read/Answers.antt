use Rattle.std.proofs.Common.{rules, sym, ◌∙◌}
use Rattle.chip.proofs.Ways.{page_found, read_granted}
use Rattle.nand.specs.Image.{nand_pages}
use Rattle.nand.proofs.Cut.{read_nand, part_nand}
use Rattle.nand.proofs.NandChip.read.Goals as goal

pub slice_bounds-copy_from_slice-end : goal.slice_bounds-copy_from_slice-end
slice_bounds-copy_from_slice-end c =
    let bs = c.args.self.now.image.now in
    let f = page_found 32 (nand_pages bs) c.args.page.0 _ _ _ c.in_ok-block.ensures in
    let h = part_nand bs f in
    search rules

pub returns-clause-buffer : goal.returns-clause-buffer
returns-clause-buffer c =
    let bs = c.args.self.now.image.now in
    let p = c.args.page.0 in
    let f = page_found 32 (nand_pages bs) p _ _ _ c.in_ok-block.ensures in
    c.copy_from_slice.ensures.after ∙ sym (read_granted (nand_pages bs) p c.args.buffer.now f.inside f.whole ∙ read_nand bs f)
