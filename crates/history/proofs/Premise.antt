-- An open store that calls led to is sound; so a list of events whose calls need do what their contracts say only if memory tells what the pages say is a history, and the premise is met before each call.
use Rattle.std.proofs.Common.{[], ◌∷◌}
use Rattle.history.specs.History.{EveryOpenStoreIsSound, PremiseIsMet}
use Rattle.history.proofs.Lawful.{reached}

pub open_stores_are_sound : EveryOpenStoreIsSound
open_stores_are_sound label es w h = (reached label es w h).0.sound

pub premise_is_met : PremiseIsMet
premise_is_met label [] w h = (h, h)
premise_is_met label (e ∷ es) w (v, h, d) =
    let i = premise_is_met label es v h in
    let sound = open_stores_are_sound label es v i.1 in
    ((v, i.0, sound, d sound), (v, i.1, d sound))
