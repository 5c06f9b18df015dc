use Rattle.keeping.proofs.Opened.{opened_is_sound}
use Rattle.keeping.proofs.opened_is_sound.Goals as goal

pub returns : goal.returns
returns c = opened_is_sound
