use Rattle.std.proofs.Common.{◌+◌, refl, arith}
use Rattle.partition.proofs.Below.{block_below}
use Rattle.partition.proofs.Partition.block_below.Goals as goal

pub returns : goal.returns
returns g c =
    let m = g.C.Chip in
    let s = c.args.self.now in
    block_below m.per s.first s.count (m.blocks s.below) (m.pages s.below) (omega (arith, m.shape.least)) (m.shape.whole s.below) c.args.block.0 (s.first + c.args.block.0) (omega arith) refl (omega arith)
