use Rattle.std.proofs.Common.{◌≡◌, ℕ, ◌+◌, ◌*◌, ◌<◌, length, get_or}
use Rattle.nor.specs.Image.{page_byte}
use Rattle.nor.proofs.Nor.copy_page.Given as goal

abbrev pub invariant-loop-i : goal.invariant-loop-i
invariant-loop-i l = (length l.buffer ≡ 528) × ((k : ℕ) → k < 2 * l.i → get_or l.buffer k 0 ≡ page_byte l.self.image.now (l.page.block * 8 + l.page.place) k)
