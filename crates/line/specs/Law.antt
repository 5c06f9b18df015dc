-- The law over all lists of calls: what may be answered to a call, judged by the events before it.
use Rattle.std.specs.Prelude.{◌≡◌, ℕ, suc, ◌<◌, ◌≤◌, Bool, true, false, not, ◌&&◌, ◌||◌, ◌↔◌, List, [], ◌∷◌, ◌++◌, reverse, length, ◌==◌, ◌≢◌, nat_eq, nat_lt}
use Rattle.std.specs.List.Sorted.{IsStrictlyIncreasing}
use Rattle.readings.specs.Versions.{Content, bytes, deleted, any}
use Rattle.rules.specs.Calls.{Call, mount, close, count, clean, freeze, open_slip, write, delete, read, look, since, since_in, ask_held, release, revert, keep_slip, back_slip, Answer, refused, granted, read_answer, born_at, filled, shown, is_none}
use Rattle.readings.specs.Changes.{last_clock}
use Rattle.line.specs.Line.{Event, marks, last_of, before, entered, needs, Effect, mounting, closing, cleaning, asking, freezing, writing, deleting, ending, turning, effect_of, is_granted, clock_said, line_of, clock_after, open_after}

-- A state is frozen by the freeze or open that gave its number.
abbrev pub freezes : Effect → Bool
freezes freezing = true
freezes mounting = false
freezes closing = false
freezes cleaning = false
freezes asking = false
freezes (writing s given) = false
freezes (deleting s) = false
freezes (ending m) = false
freezes (turning leaves m) = false

abbrev pub gives : ℕ → Event → Bool
gives n e = is_granted e && (freezes (effect_of e.call) && clock_said e == n)

-- A release, keep or back of n.
abbrev pub ends_by : ℕ → Effect → Bool
ends_by n (ending m) = m == n
ends_by n (turning leaves m) = not leaves && m == n
ends_by n mounting = false
ends_by n closing = false
ends_by n cleaning = false
ends_by n asking = false
ends_by n freezing = false
ends_by n (writing s given) = false
ends_by n (deleting s) = false

-- A revert or back to a state that passes the test.
abbrev pub goes_to : (ℕ → Bool) → Effect → Bool
goes_to test (turning leaves m) = test m
goes_to test mounting = false
goes_to test closing = false
goes_to test cleaning = false
goes_to test asking = false
goes_to test freezing = false
goes_to test (writing s given) = false
goes_to test (deleting s) = false
goes_to test (ending m) = false

-- A freeze or open gave n.
unfoldable pub gave : ℕ → List Event → Bool
gave n es = any (gives n) es

-- A granted release, keep or back ended n.
unfoldable pub ended : ℕ → List Event → Bool
ended n es = any (λ e. is_granted e && ends_by n (effect_of e.call)) es

-- Since n was given, a granted revert or back went to an older state, which has a smaller number.
unfoldable pub passed : ℕ → List Event → Bool
passed n [] = false
passed n (e ∷ es) = (is_granted e && (goes_to (λ m. nat_lt m n) (effect_of e.call) && gave n es)) || passed n es

abbrev pub is_unknown : ℕ → List Event → Bool
is_unknown n es = not (gave n es) || (ended n es || passed n es)

-- After a granted revert or back, until the line next changes, the state of n stands again: `old` are the events before it was frozen.
pub record Restored (es : List Event) (old : List Event) : Type 0 where
  pub number : ℕ
  pub late : List Event
  pub turn : Event
  pub mid : List Event
  pub frozen : Event
  pub are : es ≡ late ++ turn ∷ (mid ++ frozen ∷ old)
  pub froze : gives number frozen ≡ true
  pub went : (is_granted turn && goes_to (λ m. nat_eq m number) (effect_of turn.call)) ≡ true
  pub unchanged : line_of (late ++ turn ∷ (mid ++ frozen ∷ old)) ≡ line_of (turn ∷ (mid ++ frozen ∷ old))

-- The answer with the clock n.
abbrev pub clock_answer : ℕ → Answer
clock_answer n = granted (n ∷ []) []

-- A refusal tells its number, and nothing else: the buffer stays.
abbrev pub Refusal : Call → Answer → Type 0
Refusal c a = (a.number ≢ 0) → a ≡ refused a.number c

-- A freeze or an open.
pub data MakesMark : Call → Type 0 where
  by_freeze : MakesMark freeze
  by_open : MakesMark open_slip

-- A release, keep, revert or back of n.
pub data ActsOn (n : ℕ) : Call → Type 0 where
  by_release : ActsOn n (release n)
  by_keep : ActsOn n (keep_slip n)
  by_revert : ActsOn n (revert n)
  by_back : ActsOn n (back_slip n)

-- One of those, or a valid look or since into the state of n.
pub data Names (n : ℕ) : Call → Type 0 where
  by_action : {c : Call} → ActsOn n c → Names n c
  by_look : (s : ℕ) (buffer : List ℕ) → s ≤ 2047 → length buffer ≡ 512 → Names n (look n s buffer)
  by_since : (s : ℕ) → s ≤ 2047 → Names n (since_in n s)

-- The answer to a change: with ticks left it is as P says, and at the last clock 11.
pub record Ticks (a : Answer) (es : List Event) (P : Type 0) : Type 0 where
  pub left : clock_after es < last_clock → P
  pub none_left : clock_after es ≡ last_clock → a.number ≡ 11

-- Granted, with the next clock.
abbrev pub NextClock : Answer → List Event → Type 0
NextClock a es = a ≡ clock_answer (suc (clock_after es))

-- The answer to a write or delete whose entry is x: 12 exactly when the line with that entry needs over C entries, else the next clock.
pub record RoomJudged (cap : ℕ) (a : Answer) (s : ℕ) (x : Content) (es : List Event) : Type 0 where
  pub full : (a.number ≡ 12) ↔ (cap < needs (entered s x (suc (clock_after es)) (line_of es)))
  pub else_granted : (a.number ≢ 12) → NextClock a es

-- The answer that lists the numbers of the held states: how many, and 8 places with them, rising, then 0.
pub record HeldJudged (a : Answer) (numbers : List ℕ) : Type 0 where
  pub tells : a ≡ granted (length numbers ∷ []) (filled 8 numbers)
  pub at_most_eight : length numbers ≤ 8
  pub rising : IsStrictlyIncreasing numbers

-- On the open store.
pub record JudgedOpen (cap : ℕ) (c : Call) (a : Answer) (es : List Event) : Type 0 where
  -- A valid read shows the sector's last entry on the line.
  pub read_shows_last_entry : (s : ℕ) (buffer : List ℕ) → c ≡ read s buffer → s ≤ 2047 → length buffer ≡ 512 → a ≡ read_answer (shown (last_of s (line_of es)))
  -- After a revert or back it shows what it showed when the state was frozen.
  pub read_shows_frozen_state : (s : ℕ) (buffer : List ℕ) (old : List Event) → c ≡ read s buffer → s ≤ 2047 → length buffer ≡ 512 → Restored es old → a ≡ read_answer (shown (last_of s (line_of old)))
  -- A valid look shows the sector's last entry before the mark.
  pub look_shows_entry_before_mark : (n s : ℕ) (buffer : List ℕ) → c ≡ look n s buffer → s ≤ 2047 → length buffer ≡ 512 → is_unknown n es ≡ false → a ≡ read_answer (shown (last_of s (before n (line_of es))))
  -- Since tells the birth of such an entry where it holds bytes, and else nothing.
  pub since_tells_birth : (s : ℕ) → c ≡ since s → s ≤ 2047 → a ≡ granted (born_at (last_of s (line_of es))) []
  pub since_tells_birth_before_mark : (n s : ℕ) → c ≡ since_in n s → s ≤ 2047 → is_unknown n es ≡ false → a ≡ granted (born_at (last_of s (before n (line_of es)))) []
  -- A state is unknown exactly when history says so.
  pub unknown_by_history : (n : ℕ) → Names n c → (a.number ≡ 9) ↔ (is_unknown n es ≡ true)
  -- A release, keep, revert or back of any other state is granted.
  pub known_state_granted : (n : ℕ) → ActsOn n c → is_unknown n es ≡ false → Ticks a es (NextClock a es)
  -- A freeze or open answers 10 exactly when the line has 8 marks. With fewer it is granted.
  pub freeze_full_at_eight : MakesMark c → (a.number ≡ 10) ↔ (length (marks (line_of es)) ≡ 8)
  pub freeze_granted_below_eight : MakesMark c → length (marks (line_of es)) < 8 → Ticks a es (NextClock a es)
  -- Full is said exactly when need exceeds capacity.
  pub write_full_by_need : (s : ℕ) (given : List ℕ) → c ≡ write s given → s ≤ 2047 → length given ≡ 512 → Ticks a es (RoomJudged cap a s (bytes given) es)
  pub delete_full_by_need : (s : ℕ) → c ≡ delete s → s ≤ 2047 → is_none (shown (last_of s (line_of es))) ≡ false → Ticks a es (RoomJudged cap a s deleted es)
  -- A delete of an empty sector changes nothing, and tells the clock last answered.
  pub delete_of_empty_tells_last_clock : (s : ℕ) → c ≡ delete s → s ≤ 2047 → is_none (shown (last_of s (line_of es))) ≡ true → a ≡ clock_answer (clock_after es)
  -- Count tells the need and the capacity.
  pub count_tells_need : c ≡ count → a ≡ granted (needs (line_of es) ∷ cap ∷ []) []
  -- Held tells the marks.
  pub held_tells_marks : (buffer : List ℕ) → c ≡ ask_held buffer → length buffer ≡ 8 → HeldJudged a (reverse (marks (line_of es)))
  -- Close and clean are granted, and mount is refused.
  pub close_granted : c ≡ close → a ≡ granted [] []
  pub clean_granted : c ≡ clean → a.number ≡ 0
  pub mount_refused : c ≡ mount → a ≡ refused 1 mount

-- On the closed store.
pub record JudgedClosed (c : Call) (a : Answer) (es : List Event) : Type 0 where
  -- It mounts, with the clock last answered.
  pub mount_tells_last_clock : c ≡ mount → a ≡ clock_answer (clock_after es)
  pub others_refused : (c ≢ mount) → a ≡ refused 2 c

-- The answer a to call c, after the events es, on a store of capacity C.
pub record Judged (cap : ℕ) (c : Call) (a : Answer) (es : List Event) : Type 0 where
  pub refusal : Refusal c a
  pub when_open : open_after es ≡ true → JudgedOpen cap c a es
  pub when_closed : open_after es ≡ false → JudgedClosed c a es

-- Every event of a list, judged by those before it.
abbrev pub Lawful : ℕ → List Event → Type 0
Lawful cap [] = Unit {0}
Lawful cap (e ∷ es) = Judged cap e.call e.answer es × Lawful cap es
