use Rattle.keeping.proofs.Cut.{cut_reads}
use Rattle.keeping.proofs.cut_reads.Goals as goal

pub returns : goal.returns
returns c = cut_reads
