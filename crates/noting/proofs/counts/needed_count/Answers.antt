use Rattle.std.proofs.Common.{◌≡◌, ◌∙◌, rules}
use Rattle.noting.specs.Counting.{needed_count}
use Rattle.noting.proofs.Counted.{count_reads}
use Rattle.noting.proofs.counts.needed_count.Goals as goal

pub returns-clause-reads : goal.returns-clause-reads
returns-clause-reads c =
    let ix = c.args.ix.now in
    let e : c.needed_count.result ≡ needed_count ix = search rules in
    λ blocks per pages con. e ∙ count_reads blocks per pages ix con
