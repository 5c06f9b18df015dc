use Rattle.keeping.proofs.Room.{there_is_room}
use Rattle.keeping.proofs.there_is_room.Goals as goal

pub returns : goal.returns
returns c = there_is_room
