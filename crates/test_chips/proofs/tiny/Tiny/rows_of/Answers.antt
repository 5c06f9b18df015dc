use Rattle.chip.proofs.Ways.{block_found}
use Rattle.test_chips.specs.Rows.{tiny_blocks}
use Rattle.test_chips.proofs.Written.{block_rows}
use Rattle.test_chips.proofs.tiny.Tiny.rows_of.Goals as goal

pub returns : goal.returns
returns c =
    let rows = c.args.self.now.rows.now in
    let f = block_found (tiny_blocks rows) c.args.block.0 _ c.in_ok-block.ensures in
    rw f.1 (block_rows rows c.args.block.0 f.0)
