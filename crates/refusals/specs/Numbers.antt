-- The number of each refusal, and its values.
use Rattle.std.specs.Prelude.{[], ◌∷◌}
use Rattle.layout.specs.Page.{cause_number}
use Rattle.readings.specs.Mount.{Verdict, plain}
use Rattle.refusals.specs.declared.types.Refusal.{Refusal}
use Rattle.refusals.specs.declared.types.Refusal.TheVariants as refusal

abbrev pub verdict_of : Refusal → Verdict
verdict_of refusal.StoreOpen = plain 1
verdict_of refusal.StoreClosed = plain 2
verdict_of refusal.ChipSize = plain 3
verdict_of refusal.LabelLength = plain 4
verdict_of (refusal.BadPage page cause) = record { number = 5; values = page.0 ∷ cause_number cause ∷ [] }
verdict_of refusal.NotAStore = plain 6
verdict_of refusal.NoSuchSector = plain 7
verdict_of refusal.BufferLength = plain 8
verdict_of refusal.NotHeld = plain 9
verdict_of refusal.TooManyHeld = plain 10
verdict_of refusal.OutOfTicks = plain 11
verdict_of refusal.Full = plain 12
