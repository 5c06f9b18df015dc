use Rattle.std.proofs.Common.{◌≡◌}
use Rattle.noting.specs.Lookups.{Found, found_below}
use Rattle.noting.proofs.lookups.page_in_state.Given as goal

abbrev pub invariant-loop-i : goal.invariant-loop-i
invariant-loop-i l = ◌≡◌ {A = Found} (record { page = l.found; birth = l.birth }) (found_below l.ix.records l.number l.sector.number l.i)
