use Rattle.std.proofs.Common.{◌≡◌, ◌+◌, ◌-◌, ◌*◌, length, take, drop, replicate, refl, sym, ap, ◌∙◌, arith, length-drop, length-take}
use Rattle.chip.proofs.Ways.{block_found, erase_granted}
use Rattle.nand.specs.Image.{nand_pages, nand_blocks}
use Rattle.nand.specs.Shaped.{blocks_fit}
use Rattle.nand.proofs.Cut.{kept_nand, erase_nand}
use Rattle.nand.proofs.NandChip.erase.Goals as goal

pub returns-clause-kept : goal.returns-clause-kept
returns-clause-kept c =
    let bs = c.args.self.now.image.now in
    let a = c.in_ok-block.block * 16896 in
    let k = a + 16896 - a in
    let f = block_found (nand_blocks bs) c.args.block.0 _ c.in_ok-block.ensures in
    let fit = blocks_fit bs in
    let part : length (take k (drop a bs)) ≡ k = simp (length-take, length-drop) (omega arith) in
    kept_nand c.args.self.now.image.ghost_name a k bs c.fill.new.self (omega arith) (c.fill.ensures.len ∙ part)

pub returns-clause-after : goal.returns-clause-after
returns-clause-after c =
    let bs = c.args.self.now.image.now in
    let b = c.args.block.0 in
    let a = c.in_ok-block.block * 16896 in
    let k = a + 16896 - a in
    let f = block_found (nand_blocks bs) b _ c.in_ok-block.ensures in
    let fit = blocks_fit bs in
    let part : length (take k (drop a bs)) ≡ k = simp (length-take, length-drop) (omega arith) in
    erase_nand 32 bs c.fill.new.self b a k refl (omega arith) (omega arith) f.0 (c.fill.ensures.after (λ y e. e) ∙ ap (λ n. replicate n 255) part) ∙ sym (erase_granted 32 (nand_blocks bs) (nand_pages bs) b f.0)
