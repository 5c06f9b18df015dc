-- What a change of an open store answers.
use Rattle.std.specs.Prelude.{ℕ, Ok, Err, Result}
use Rattle.chip.specs.declared.ChipFault.{ChipFault}
use Rattle.refusals.specs.declared.types.Refusal.{Refusal}
use Rattle.refusals.specs.declared.types.Refusal.TheVariants.{NotAStore}
use Rattle.rules.specs.declared.types.Tick.{Tick}

-- The clock, where the change is made.
abbrev pub clock_or : Result (Unit {0}) ChipFault → ℕ → Result Tick Refusal
clock_or (Ok u) clock = Ok (record { 0 = clock })
clock_or (Err fault) clock = Err NotAStore
