use Rattle.keeping.proofs.Reading.{must_suffices}
use Rattle.keeping.proofs.must_suffices.Goals as goal

pub returns : goal.returns
returns c = must_suffices
