use Rattle.std.proofs.Common.{ap, arith}
use Rattle.std.proofs.lemmas.Result.{err_from_is_err_and}
use Rattle.partition.specs.Shaped.{part_shape}
use Rattle.partition.proofs.Below.{page_in_block, page_lacking}
use Rattle.partition.proofs.Partition.page_below.Goals as goal

pub returns-in_err-block : goal.returns-in_err-block
returns-in_err-block g c =
    let m = g.C.Chip in
    let s = c.args.self.now in
    let p = err_from_is_err_and c.from_residual.result c.from_residual.ensures.1 in
    let d = ap (λ z. z.0.0) c.split-place.ensures in
    let h = c.in_err-block.ensures in
    rw (p.1, p.2) (page_lacking m.per _ c.args.page.0 c.split-place.result.0.0 ((part_shape m.shape).whole s) d h.0, h.1)

pub returns : goal.returns
returns g c =
    let m = g.C.Chip in
    let s = c.args.self.now in
    let d = ap (λ z. z.0.0) c.split-place.ensures in
    let b = c.in_ok-block.ensures in
    let r = ap (λ z. z.1) c.split-place.ensures in
    rw c.block_pages.ensures (page_in_block m.per s.first s.count (m.pages s.below) c.args.page.0 _ _ _ (omega (arith, m.shape.least)) d r b.within b.is)
