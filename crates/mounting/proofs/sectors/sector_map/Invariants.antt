use Rattle.std.proofs.Common.{◌≡◌, length}
use Rattle.mounting.proofs.SectorTurns.{Entries}
use Rattle.mounting.proofs.sectors.sector_map.Given as goal

abbrev pub invariant-loop-i : goal.invariant-loop-i
invariant-loop-i l = record { wide : length l.map ≡ 2048; so_far : Entries l.tags.all.now l.records l.i l.map }
