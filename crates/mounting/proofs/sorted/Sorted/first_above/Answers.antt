use Rattle.std.proofs.Common.{leb, rules}
use Rattle.std.proofs.lemmas.List.Sorted.{IsPartitionPoint-from_clause, IsPartitionedBy-leb}
use Rattle.mounting.proofs.KeyTurns.{above_point}
use Rattle.mounting.proofs.sorted.Sorted.first_above.Goals as goal

pub returns : goal.returns
returns c =
    let ks = c.args.self.numbers.now in
    let n = c.args.n in
    above_point ks n c.partition_point.result c.args.self.rising
    (IsPartitionPoint-from_clause (λ k. leb k n) ks c.partition_point.result c.partition_point.ensures.partitioned (IsPartitionedBy-leb (λ k. k) ks n c.args.self.rising) (λ a r f' k. search rules))
