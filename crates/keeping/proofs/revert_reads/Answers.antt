use Rattle.keeping.proofs.Cut.{revert_reads}
use Rattle.keeping.proofs.revert_reads.Goals as goal

pub returns : goal.returns
returns c = revert_reads
