use Rattle.std.proofs.Common.{◌≡◌, ℕ, ◌<◌, length, get_or}
use Rattle.noting.specs.Lookups.{found_below}
use Rattle.changing.specs.Back.{map_entry}
use Rattle.changing.proofs.back.map_at.Given as goal

abbrev pub invariant-loop-page : goal.invariant-loop-page
invariant-loop-page l = (length l.map ≡ 2048) × ((s : ℕ) → s < 2048 → get_or l.map s 0 ≡ map_entry (found_below l.ix.records l.number s l.page).page)
