use Rattle.std.proofs.Common.{rules, arith}
use Rattle.noting.proofs.Version.{version_added}
use Rattle.noting.proofs.note_version.Goals as goal

pub returns-clause-added : goal.returns-clause-added
returns-clause-added c =
    let last = c.args.sector.last in
    λ blocks per pages x content con free is kind.
    version_added blocks per pages c.args.ix.now _ c.args.page.0 x c.args.sector.number content c.args.kind con free (omega arith) is kind (search rules)
