use Rattle.std.proofs.Common.{◌≡◌, ℕ, ◌*◌, ◌<◌, ◌≤◌, true, [], get_or}
use Rattle.chip.specs.Pages.{is_erased}
use Rattle.changing.proofs.format.erase_all.Given as goal

abbrev pub invariant-loop-b : goal.invariant-loop-b
invariant-loop-b g l =
    let m = g.C.Chip in
    (m.kept l.chip ≡ m.kept l.initial.chip) × (m.blocks l.chip ≡ m.blocks l.initial.chip)
    × ((k : ℕ) → k < l.b * m.per → is_erased (get_or (m.pages l.chip) k []) ≡ true) × (l.b ≤ l.blocks)
