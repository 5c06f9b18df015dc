use Rattle.std.proofs.Common.{arith}
use Rattle.chip.proofs.Ways.{page_found}
use Rattle.nor.specs.Image.{nor_pages}
use Rattle.nor.specs.Shaped.{length_nor}
use Rattle.nor.proofs.Changes.{is_page}
use Rattle.nor.proofs.Nor.page_at.Goals as goal

pub invariant_of-result : goal.invariant_of-result
invariant_of-result c =
    let ws = c.args.self.now.image.now in
    let f = page_found 8 (nor_pages ws) c.args.page.0 c.args.length c.in_ok-block.block c.in_ok-block.place c.in_ok-block.ensures in
    record { on_chip = omega (arith, f.inside, f.in_block, length_nor ws); placed = omega (arith, f.at) }

pub returns : goal.returns
returns c =
    let ws = c.args.self.now.image.now in
    is_page ws (page_found 8 (nor_pages ws) c.args.page.0 c.args.length c.in_ok-block.block c.in_ok-block.place c.in_ok-block.ensures)
