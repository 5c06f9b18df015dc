use Rattle.keeping.proofs.Reopened.{cut_has_room}
use Rattle.keeping.proofs.cut_has_room.Goals as goal

pub returns : goal.returns
returns c = cut_has_room
