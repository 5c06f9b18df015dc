use Rattle.std.proofs.Common.{ap}
use Rattle.chip.proofs.Ways.{place_length, place_found}
use Rattle.chip.proofs.Chip.place_of.Goals as goal

pub returns-then-length-ne-PAGE_BYTES : goal.returns-then-length-ne-PAGE_BYTES
returns-then-length-ne-PAGE_BYTES g c =
    let m = g.Self.Chip in
    let s = c.args.self.now in
    place_length m.per _ (m.pages s) m.shape.least (m.shape.whole s) c.args.page.0 c.args.length _ _ c.in_ok-block.ensures (ap (λ z. z.0.0) c.split-place.ensures) c.if-length-ne-PAGE_BYTES.true

pub returns : goal.returns
returns g c =
    let m = g.Self.Chip in
    let s = c.args.self.now in
    place_found m.per _ (m.pages s) m.shape.least (m.shape.whole s) c.args.page.0 c.args.length _ _ c.in_ok-block.ensures (ap (λ z. z.0.0) c.split-place.ensures) c.if-length-ne-PAGE_BYTES.false _ (ap (λ z. z.1) c.split-place.ensures)
