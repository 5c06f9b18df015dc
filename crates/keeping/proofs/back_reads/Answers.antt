use Rattle.keeping.proofs.Cut.{back_reads}
use Rattle.keeping.proofs.back_reads.Goals as goal

pub returns : goal.returns
returns c = back_reads
