use Rattle.std.proofs.Common.{◌≡◌, ◌+◌, ◌∙◌, rules, arith}
use Rattle.noting.specs.Counting.{needed_after}
use Rattle.noting.proofs.Counted.{after_reads}
use Rattle.noting.proofs.counts.needed_after.Goals as goal

pub returns-in_default-clause-reads : goal.returns-in_default-clause-reads
returns-in_default-clause-reads c =
    let last = c.args.sector.last in
    let e : c.needed_count-count.result + 1 ≡ needed_after c.args.ix.now c.args.sector.number = search rules in
    λ blocks per pages content con. e ∙ after_reads blocks per pages c.args.ix.now con c.args.sector.number (omega arith) content

pub returns-clause-reads : goal.returns-clause-reads
returns-clause-reads c =
    let last = c.args.sector.last in
    let e : c.needed_count-count.result + c.from.result ≡ needed_after c.args.ix.now c.args.sector.number = search rules in
    λ blocks per pages content con. e ∙ after_reads blocks per pages c.args.ix.now con c.args.sector.number (omega arith) content
