use Rattle.std.proofs.Common.{◌+◌, ◌*◌, ◌/◌, ◌%◌, get_or, sym, ap, ◌∙◌, arith, length-set}
use Rattle.nor.proofs.Words.{copy_more, page_bytewise, word_of_lem}
use Rattle.nor.proofs.Nor.copy_page.Goals as goal

pub loop-i-preserved : goal.loop-i-preserved
loop-i-preserved c =
    let ws = c.args.self.now.image.now in
    let b = c.args.page.block in
    let p = c.args.page.place in
    let i = c.loop-i.i in
    let inv = c.loop-i.invariant in
    let w = c.word.ensures ∙ sym (word_of_lem b p i (omega arith)) in
    let low = ap (λ r. get_or r 0 0) c.to_le_bytes.ensures ∙ ap (λ k. get_or ws k 0 % 256) w in
    let high = ap (λ r. get_or r 1 0) c.to_le_bytes.ensures ∙ ap (λ k. get_or ws k 0 / 256 % 256) w in
    (simp length-set inv.0, copy_more ws c.loop-i.buffer (b * 8 + p) i _ _ (omega (arith, inv.0)) low high inv.1)

pub returns : goal.returns
returns c =
    let inv = c.loop-i.invariant in
    page_bytewise c.args.self.now.image.now (c.args.page.block * 8 + c.args.page.place) c.loop-i.buffer inv.0 (λ k h. inv.1 k (omega arith))
