use Rattle.history.proofs.Premise.{open_stores_are_sound}
use Rattle.history.proofs.every_open_store_is_sound.Goals as goal

pub returns : goal.returns
returns c = open_stores_are_sound
