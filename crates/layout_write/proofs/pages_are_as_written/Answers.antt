use Rattle.layout_write.proofs.Canon.{written_again}
use Rattle.layout_write.proofs.pages_are_as_written.Goals as goal

pub returns : goal.returns
returns c = written_again
