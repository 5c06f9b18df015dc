-- What can have happened to a store since a format.
use Rattle.std.specs.Prelude.{◌≡◌, ℕ, true, false, Some, List, [], ◌∷◌}
use Rattle.readings.specs.Versions.{has}
use Rattle.tables.specs.declared.index.Index.{Index}
use Rattle.keeping.specs.Opened.{Opened}
use Rattle.line.specs.Cases.{Cases}
use Rattle.line.specs.Equation.{Equation}
use Rattle.line.specs.Line.{Event}
use Rattle.line.specs.Law.{Lawful}
use Rattle.store.specs.Views.{View, is_open, reading_of, capacity_of, Sound}
use Rattle.store.specs.Deeds.{refused_with, format_answer, Formatted, Does}

-- A list of events since a granted format with this label, latest first, that leads to the store w. Each call did what its contract says, on any chip; between them the store was in some state that these contracts allow.
abbrev pub History : List ℕ → List Event → View → Type 0
History label [] w = (v : View) × Formatted label v w
History label (e ∷ es) w = (v : View) × History label es v × Does e.call v e.answer w

-- The law over every such list.
abbrev pub EveryHistoryIsLawful : Type 0
EveryHistoryIsLawful = (label : List ℕ) (es : List Event) (w : View) → History label es w → Lawful (capacity_of w) es

-- What a revert or back makes of the store that a history led to, at each number that it holds.
abbrev pub EveryRevertIsTheEquation : Type 0
EveryRevertIsTheEquation =
    (label : List ℕ) (es : List Event) (w : View) → History label es w → (n : ℕ) → has n (reading_of w).held ≡ true → Equation n (reading_of w)

-- The worked cases, and a format on a chip of one block, whatever its pages.
abbrev pub EveryWorkedCaseHolds : Type 0
EveryWorkedCaseHolds =
    Cases × ((label : List ℕ) (v : View) → v.blocks ≡ 1 → is_open v ≡ false → format_answer label v ≡ refused_with 3 [])

-- On every store that calls can lead to, memory tells what the pages say.
abbrev pub EveryOpenStoreIsSound : Type 0
EveryOpenStoreIsSound = (label : List ℕ) (es : List Event) (w : View) → History label es w → Sound w

-- Memory tells what the pages say, where the store is open.
abbrev pub Tells : View → Type 0
Tells v = (ix : Index) → v.memory ≡ Some ix → Opened v.blocks v.per v.pages ix

-- A list of events as in a history, but each call did what its contract says only if memory told what the pages say before it.
abbrev pub HistoryIfSound : List ℕ → List Event → View → Type 0
HistoryIfSound label [] w = History label [] w
HistoryIfSound label (e ∷ es) w = (v : View) × HistoryIfSound label es v × (Tells v → Does e.call v e.answer w)

-- A history where memory told what the pages say before each call, so that the call did what its contract says.
abbrev pub SoundHistory : List ℕ → List Event → View → Type 0
SoundHistory label [] w = History label [] w
SoundHistory label (e ∷ es) w = (v : View) × SoundHistory label es v × Sound v × Does e.call v e.answer w

-- The premise is met at each step.
abbrev pub PremiseIsMet : Type 0
PremiseIsMet = (label : List ℕ) (es : List Event) (w : View) → HistoryIfSound label es w → SoundHistory label es w × History label es w
