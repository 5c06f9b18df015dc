use Rattle.std.proofs.Common.{refl, rules}
use Rattle.noting.specs.Fresh.{IsFresh}
use Rattle.noting.proofs.Fresh.{freshly_read}
use Rattle.noting.proofs.format.fresh_index.Goals as goal

pub returns-clause-reads : goal.returns-clause-reads
returns-clause-reads c =
    let memory : IsFresh c.args.pages c.args.page.0 c.args.spare c.args.label c.put.new.self = search rules in
    λ blocks per chip counted form. freshly_read blocks per chip c.args.page.0 c.args.spare.0 _ form c.put.new.self c.args.spare c.args.label c.args.pages counted refl refl memory
