use Rattle.std.proofs.Common.{length, drop, refl, sym, ap, ◌*◌, ◌∙◌, set, arith}
use Rattle.chip.specs.Pages.{is_erased}
use Rattle.chip.proofs.Ways.{program_not_erased, program_granted}
use Rattle.nor.specs.Image.{nor_pages, nor_blocks}
use Rattle.nor.proofs.Changes.{kept_nor, same_blocks, pages_programmed_lem, length_programmed, rest_programmed}
use Rattle.nor.proofs.NorChip.program.Goals as goal

pub returns-then-not-is_page_erased : goal.returns-then-not-is_page_erased
returns-then-not-is_page_erased c =
    let f = c.in_ok-page.ensures in
    let e = ap is_erased f.holds ∙ sym c.is_page_erased.ensures.answer ∙ c.if-not-is_page_erased.true in
    let w = program_not_erased (nor_pages c.args.self.now.image.now) c.args.page.0 c.args.bytes.now f.exists f.whole e in
    record { kept = refl; same = refl; answer = w.0; after = w.1 }

pub returns : goal.returns
returns c =
    let ws = c.args.self.now.image.now in
    let bytes = c.args.bytes.now in
    let n = c.args.page.0 in
    let at = c.in_ok-page.page in
    let f = c.in_ok-page.ensures in
    let ones = c.is_page_erased.ensures.ones c.if-not-is_page_erased.false in
    let e = ap is_erased f.holds ∙ sym c.is_page_erased.ensures.answer ∙ c.if-not-is_page_erased.false in
    let after = c.and_bytes.ensures in
    let pages = pages_programmed_lem ws bytes at.block at.place at.placed f.in_block f.whole (λ k. omega (arith, c.type_inv.bytes k)) ones in
    let len = ap length after ∙ length_programmed ws bytes at.block at.place at.placed f.in_block f.whole (λ k. omega (arith, c.type_inv.bytes k)) ones in
    let rest = ap (drop (nor_blocks ws * 2112)) after ∙ rest_programmed ws bytes at.block at.place at.placed f.in_block f.whole (λ k. omega (arith, c.type_inv.bytes k)) ones in
    let w = program_granted (nor_pages ws) n bytes f.exists f.whole e _ (ap nor_pages after ∙ pages ∙ ap (λ i. set (nor_pages ws) i bytes) f.is) in
    record { kept = kept_nor c.args.self.now.image.ghost_name ws c.and_bytes.new.image len rest; same = same_blocks ws c.and_bytes.new.image len; answer = w.0; after = w.1 }
