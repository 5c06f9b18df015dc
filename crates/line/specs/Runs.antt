-- Lists of events that a store can give: each step follows the rules of the calls.
use Rattle.std.specs.Prelude.{◌≡◌, ℕ, Bool, true, false, cond, List, [], ◌∷◌, MatchBool}
use Rattle.readings.specs.Versions.{Reading}
use Rattle.rules.specs.Calls.{Call, Answer, granted, refused, rule}
use Rattle.readings.specs.Changes.{fresh}
use Rattle.line.specs.Line.{Event, is_granted, Effect, mounting, closing, cleaning, asking, freezing, writing, deleting, ending, turning, effect_of, opens}
use Rattle.line.specs.Law.{Lawful}

-- What a store is to its caller: open or closed, and what its chip reads as.
pub record State : Type 0 where
  pub open? : Bool
  pub reading : Reading

abbrev pub cleans : Effect → Bool
cleans cleaning = true
cleans mounting = false
cleans closing = false
cleans asking = false
cleans freezing = false
cleans (writing s given) = false
cleans (deleting s) = false
cleans (ending n) = false
cleans (turning leaves n) = false

-- On an open store a call follows its rule; only how many pages clean lost is not the reading's to say.
pub record StepOpen (cap : ℕ) (s : State) (e : Event) (t : State) : Type 0 where
  pub answer : MatchBool (cleans (effect_of e.call)) (e.answer.number ≡ 0) (e.answer ≡ (rule cap e.call s.reading).answer)
  pub reading : t.reading ≡ (rule cap e.call s.reading).left
  pub is_open_after : t.open? ≡ cond (is_granted e) (opens (effect_of e.call) true) true

-- On a closed store mount is granted with the clock, and any other call is refused with 2.
abbrev pub closed_answer : Call → Reading → Answer
closed_answer c r = cond (opens (effect_of c) false) (granted (r.clock ∷ []) []) (refused 2 c)

pub record StepClosed (s : State) (e : Event) (t : State) : Type 0 where
  pub answer : e.answer ≡ closed_answer e.call s.reading
  pub reading : t.reading ≡ s.reading
  pub is_open_after : t.open? ≡ opens (effect_of e.call) false

-- One call, from a state to the next.
abbrev pub Step : ℕ → Bool → State → Event → State → Type 0
Step cap true s e t = StepOpen cap s e t
Step cap false s e t = StepClosed s e t

-- A list of events since a format, latest first, that leads to the state t.
abbrev pub Run : ℕ → List ℕ → List Event → State → Type 0
Run cap label [] t = t ≡ record { open? = true; reading = fresh label }
Run cap label (e ∷ es) t = (s : State) × Run cap label es s × Step cap s.open? s e t

-- The law over every run.
abbrev pub Law : Type 0
Law = (cap : ℕ) (label : List ℕ) (es : List Event) (t : State) → Run cap label es t → Lawful cap es
