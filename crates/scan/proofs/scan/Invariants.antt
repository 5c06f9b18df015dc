use Rattle.std.proofs.Common.{◌≡◌, map, drop, None}
use Rattle.std.specs.Option.{option_map}
use Rattle.limits.specs.Values.{register_values}
use Rattle.layout.specs.Page.{tag_of}
use Rattle.scan.specs.Scan.{lowest_bad, youngest, tags_read}
use Rattle.scan.proofs.Turns.{table_from}
use Rattle.scan.proofs.scan.Given as goal

abbrev pub invariant-loop-k : goal.invariant-loop-k
invariant-loop-k g l =
    let ps = g.C.Chip.pages l.chip in
    let ts = map tag_of l.table in
    (lowest_bad l.k (drop l.k ps) ≡ lowest_bad 0 ps)
    × (youngest (option_map register_values l.best) (drop l.k ps) ≡ youngest None ps)
    × (table_from ps l.k ts ≡ tags_read ps (map tag_of l.initial.table))
