use Rattle.noting.proofs.Written.{written_says}
use Rattle.noting.proofs.written_pages_say.Goals as goal

pub returns : goal.returns
returns c = written_says
