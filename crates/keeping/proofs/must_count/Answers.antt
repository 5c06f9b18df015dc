use Rattle.keeping.proofs.Room.{must_count}
use Rattle.keeping.proofs.must_count.Goals as goal

pub returns : goal.returns
returns c = must_count
