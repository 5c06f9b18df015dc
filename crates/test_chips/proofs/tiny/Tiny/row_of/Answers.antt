use Rattle.std.proofs.Common.{◌≡◌, ◌+◌, ◌*◌, ◌<◌, arith}
use Rattle.chip.proofs.Ways.{page_found}
use Rattle.test_chips.specs.Rows.{tiny_blocks, tiny_pages}
use Rattle.test_chips.specs.Shaped.{length_pages}
use Rattle.test_chips.proofs.Written.{page_row}
use Rattle.test_chips.proofs.tiny.Tiny.row_of.Goals as goal

pub returns : goal.returns
returns c =
    let rows = c.args.self.now.rows.now in
    let p = c.args.page.0 in
    let f = page_found 2 (tiny_pages rows) p c.args.length c.in_ok-block.block c.in_ok-block.place c.in_ok-block.ensures in
    let row : c.in_ok-block.block * 2 + c.in_ok-block.place ≡ p = omega (arith, f.in_block, f.at) in
    let inside : p < tiny_blocks rows * 2 = omega (arith, f.inside, length_pages rows) in
    rw row (page_row rows p c.args.length inside f.whole)
