use Rattle.std.proofs.Common.{rules}
use Rattle.noting.proofs.Register.{register_added}
use Rattle.noting.proofs.note_register.Goals as goal

pub returns-clause-added : goal.returns-clause-added
returns-clause-added c =
    let ix = c.args.ix.now in
    let k = c.args.page.0 in
    λ blocks per pages x con free is holdable. register_added blocks per pages ix _ k x c.args.held con free is holdable (search rules)
