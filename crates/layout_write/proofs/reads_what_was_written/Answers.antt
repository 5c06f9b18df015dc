use Rattle.layout_write.proofs.Round.{read_again}
use Rattle.layout_write.proofs.reads_what_was_written.Goals as goal

pub returns : goal.returns
returns c = read_again
