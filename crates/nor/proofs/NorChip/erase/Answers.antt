use Rattle.std.proofs.Common.{◌≡◌, ◌+◌, ◌-◌, ◌*◌, length, take, drop, replicate, sym, ap, ◌∙◌, arith, length-drop, length-take}
use borrow.Rule.Slice.PartMut.{put_mid}
use Rattle.chip.proofs.Ways.{block_found, erase_granted}
use Rattle.nor.specs.Image.{nor_pages, nor_blocks}
use Rattle.nor.proofs.Changes.{kept_nor, pages_erased_lem, length_wiped, rest_wiped}
use Rattle.nor.proofs.NorChip.erase.Goals as goal

pub returns-clause-kept : goal.returns-clause-kept
returns-clause-kept c =
    let ws = c.args.self.now.image.now in
    let b = c.args.block.0 in
    let a = c.in_ok-block.block * 2112 in
    let k = a + 2112 - a in
    let ys = c.fill.new.self in
    let f = block_found (nor_blocks ws) b _ c.in_ok-block.ensures in
    let part : length (take k (drop a ws)) ≡ k = simp (length-take, length-drop) (omega arith) in
    let ones : ys ≡ replicate k 65535 = c.fill.ensures.after (λ y e. e) ∙ ap (λ n. replicate n 65535) part in
    kept_nor c.args.self.now.image.ghost_name ws (put_mid a k ws ys) (length_wiped ws ys b a k f.0 (omega arith) (omega arith) ones) (rest_wiped ws ys b a k f.0 (omega arith) (omega arith) ones)

pub returns-clause-after : goal.returns-clause-after
returns-clause-after c =
    let ws = c.args.self.now.image.now in
    let b = c.args.block.0 in
    let a = c.in_ok-block.block * 2112 in
    let k = a + 2112 - a in
    let ys = c.fill.new.self in
    let f = block_found (nor_blocks ws) b _ c.in_ok-block.ensures in
    let part : length (take k (drop a ws)) ≡ k = simp (length-take, length-drop) (omega arith) in
    let ones : ys ≡ replicate k 65535 = c.fill.ensures.after (λ y e. e) ∙ ap (λ n. replicate n 65535) part in
    pages_erased_lem ws ys b a k f.0 (omega arith) (omega arith) ones ∙ sym (erase_granted 8 (nor_blocks ws) (nor_pages ws) b f.0)
