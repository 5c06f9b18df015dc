-- The line: what whoever makes the calls can keep by themselves, from the calls and their answers alone.
use Rattle.std.specs.Prelude.{ℕ, Bool, true, false, cond, ◌&&◌, ◌||◌, List, [], ◌∷◌, length, ◌==◌, nat_eq}
use Rattle.std.proofs.Math.Option.{Option}
use Rattle.readings.specs.Versions.{Content, bytes, deleted, Version, keep, any, first, is}
use Rattle.rules.specs.Calls.{Call, mount, close, count, clean, freeze, open_slip, write, delete, read, look, since, since_in, ask_held, ask_label, release, revert, keep_slip, back_slip, Answer, shown, is_none}

-- A call with its arguments, and what was answered.
pub record Event : Type 0 where
  pub call : Call
  pub answer : Answer

-- Lists of events, and lines, stand latest first.

-- An entry is a version as the line has it: its birth is the clock that the call was answered.
pub data Item : Type 0 where
  entry : Version → Item
  mark : ℕ → Item

unfoldable pub entries : List Item → List Version
entries [] = []
entries (entry v ∷ l) = v ∷ entries l
entries (mark n ∷ l) = entries l

unfoldable pub marks : List Item → List ℕ
marks [] = []
marks (entry v ∷ l) = marks l
marks (mark n ∷ l) = n ∷ marks l

-- What came before the mark n.
unfoldable pub before : ℕ → List Item → List Item
before n [] = []
before n (entry v ∷ l) = before n l
before n (mark m ∷ l) = cond (m == n) l (before n l)

-- The line without the mark n.
unfoldable pub unmark : ℕ → List Item → List Item
unmark n [] = []
unmark n (entry v ∷ l) = entry v ∷ unmark n l
unmark n (mark m ∷ l) = cond (m == n) (unmark n l) (mark m ∷ unmark n l)

-- A sector's last entry.
abbrev pub last_of : ℕ → List Item → Option Version
last_of s l = first (λ v. nat_eq v.sector s) (entries l)

-- An entry is needed if it is its sector's last on the line, or its sector's last before some mark.
unfoldable pub needed_on : List Item → Version → Bool
needed_on l v = is v (last_of v.sector l) || any (λ n. is v (last_of v.sector (before n l))) (marks l)

unfoldable pub needs : List Item → ℕ
needs l = length (keep (needed_on l) (entries l))

abbrev pub entered : ℕ → Content → ℕ → List Item → List Item
entered s x n l = entry (record { sector = s; birth = n; content = x }) ∷ l

-- What a call is to the line.
pub data Effect : Type 0 where
  mounting closing cleaning asking freezing : Effect
  writing : (sector : ℕ) (given : List ℕ) → Effect
  deleting : (sector : ℕ) → Effect
  -- a release or a keep
  ending : (number : ℕ) → Effect
  -- a revert, which leaves the mark, or a back
  turning : (leaves : Bool) (number : ℕ) → Effect

abbrev pub effect_of : Call → Effect
effect_of mount = mounting
effect_of close = closing
effect_of clean = cleaning
effect_of freeze = freezing
effect_of open_slip = freezing
effect_of (write s given) = writing s given
effect_of (delete s) = deleting s
effect_of (release n) = ending n
effect_of (keep_slip n) = ending n
effect_of (revert n) = turning true n
effect_of (back_slip n) = turning false n
effect_of count = asking
effect_of (read s buffer) = asking
effect_of (look n s buffer) = asking
effect_of (since s) = asking
effect_of (since_in n s) = asking
effect_of (ask_held buffer) = asking
effect_of (ask_label buffer) = asking

-- What a granted call does to the line; n is the clock that it was answered.
unfoldable pub extend : Effect → ℕ → List Item → List Item
extend (writing s given) n l = entered s (bytes given) n l
extend (deleting s) n l = cond (is_none (shown (last_of s l))) l (entered s deleted n l)
extend freezing n l = mark n ∷ l
extend (ending m) n l = unmark m l
extend (turning leaves m) n l = cond leaves (mark m ∷ before m l) (before m l)
extend mounting n l = l
extend closing n l = l
extend cleaning n l = l
extend asking n l = l

abbrev pub is_granted : Event → Bool
is_granted e = e.answer.number == 0

-- The first value of an answer, where it has one.
abbrev pub first_or : ℕ → List ℕ → ℕ
first_or n [] = n
first_or n (x ∷ xs) = x

abbrev pub clock_said : Event → ℕ
clock_said e = first_or 0 e.answer.values

unfoldable pub feed : Event → List Item → List Item
feed e l = cond (is_granted e) (extend (effect_of e.call) (clock_said e) l) l

-- The line since a format.
unfoldable pub line_of : List Event → List Item
line_of [] = []
line_of (e ∷ es) = feed e (line_of es)

-- Calls that answer the clock, where they are granted.
abbrev pub tells_clock : Effect → Bool
tells_clock mounting = true
tells_clock freezing = true
tells_clock (writing s given) = true
tells_clock (deleting s) = true
tells_clock (ending n) = true
tells_clock (turning leaves n) = true
tells_clock closing = false
tells_clock cleaning = false
tells_clock asking = false

-- The clock last answered; a format answers 1.
unfoldable pub clock_after : List Event → ℕ
clock_after [] = 1
clock_after (e ∷ es) = cond (is_granted e && tells_clock (effect_of e.call)) (clock_said e) (clock_after es)

-- Whether a store is open after a granted call, by whether it was.
abbrev pub opens : Effect → Bool → Bool
opens mounting was = true
opens closing was = false
opens cleaning was = was
opens asking was = was
opens freezing was = was
opens (writing s given) was = was
opens (deleting s) was = was
opens (ending n) was = was
opens (turning leaves n) was = was

-- Whether the store is open; a format opens it.
unfoldable pub open_after : List Event → Bool
open_after [] = true
open_after (e ∷ es) = cond (is_granted e) (opens (effect_of e.call) (open_after es)) (open_after es)
