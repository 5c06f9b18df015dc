-- What each call on an open store answers, and the reading that it leaves.
use Rattle.std.specs.Prelude.{ℕ, ◌-◌, Bool, true, false, cond, not, List, [], ◌∷◌, ◌++◌, reverse, length, replicate, ◌==◌, nat_lt}
use Rattle.std.proofs.Math.Option.{Option, none, some}
use Rattle.readings.specs.Versions.{Content, bytes, deleted, Version, has, Reading, add}
use Rattle.readings.specs.Changes.{last_clock, last_sector, present, in_state, frozen, released, reverted, backed}

-- A call with its arguments; a buffer that it fills comes as it was given, and a slip as its number.
pub data Call : Type 0 where
  mount close count clean freeze open_slip : Call
  write : (sector : ℕ) (given : List ℕ) → Call
  delete : (sector : ℕ) → Call
  read : (sector : ℕ) (buffer : List ℕ) → Call
  look : (number sector : ℕ) (buffer : List ℕ) → Call
  since : (sector : ℕ) → Call
  since_in : (number sector : ℕ) → Call
  ask_held ask_label : (buffer : List ℕ) → Call
  release revert keep_slip back_slip : (number : ℕ) → Call

-- Number and values, and the buffer afterwards.
pub record Answer : Type 0 where
  pub number : ℕ
  pub values : List ℕ
  pub buffer : List ℕ

pub record Outcome : Type 0 where
  pub answer : Answer
  pub left : Reading

abbrev pub buffer_of : Call → List ℕ
buffer_of (read s buffer) = buffer
buffer_of (look n s buffer) = buffer
buffer_of (ask_held buffer) = buffer
buffer_of (ask_label buffer) = buffer
buffer_of mount = []
buffer_of close = []
buffer_of count = []
buffer_of clean = []
buffer_of freeze = []
buffer_of open_slip = []
buffer_of (write s given) = []
buffer_of (delete s) = []
buffer_of (since s) = []
buffer_of (since_in n s) = []
buffer_of (release n) = []
buffer_of (revert n) = []
buffer_of (keep_slip n) = []
buffer_of (back_slip n) = []

abbrev pub refused : ℕ → Call → Answer
refused n c = record { number = n; values = []; buffer = buffer_of c }

abbrev pub granted : List ℕ → List ℕ → Answer
granted values buffer = record { number = 0; values = values; buffer = buffer }

-- What a version gives its reader: bytes, or nothing where the sector is empty.
abbrev pub content_of : Content → Option (List ℕ)
content_of (bytes bs) = some bs
content_of deleted = none

abbrev pub shown : Option Version → Option (List ℕ)
shown none = none
shown (some v) = content_of v.content

abbrev pub is_none : {A : Type 0} → Option A → Bool
is_none none = true
is_none (some x) = false

-- A read that is granted: 1 and the bytes, or 0 and 512 bytes 00 where the sector is empty.
abbrev pub read_answer : Option (List ℕ) → Answer
read_answer none = granted (0 ∷ []) (replicate 512 0)
read_answer (some bs) = granted (1 ∷ []) bs

-- The birth of what a sector holds, or nothing.
abbrev pub born_when : Content → ℕ → List ℕ
born_when (bytes bs) b = b ∷ []
born_when deleted b = []

abbrev pub born_at : Option Version → List ℕ
born_at none = []
born_at (some v) = born_when v.content v.birth

-- Filled up with 0 to n.
abbrev pub filled : ℕ → List ℕ → List ℕ
filled n xs = xs ++ replicate (n - length xs) 0

-- The checks of a call c, on a reading r, with capacity `cap`.
module _ (cap : ℕ) (c : Call) (r : Reading) where
  abbrev pub refuse : ℕ → Outcome
  refuse n = record { answer = refused n c; left = r }

  abbrev pub refuse_if : Bool → ℕ → Outcome → Outcome
  refuse_if test n otherwise = cond test (refuse n) otherwise

  -- A query: the reading stays.
  abbrev pub tell : Answer → Outcome
  tell a = record { answer = a; left = r }

  -- A change, which answers the clock.
  abbrev pub become : Reading → Outcome
  become r' = record { answer = granted (r'.clock ∷ []) []; left = r' }

  abbrev pub check_sector : ℕ → Outcome → Outcome
  check_sector s = refuse_if (nat_lt last_sector s) 7

  abbrev pub check_length : ℕ → List ℕ → Outcome → Outcome
  check_length n xs = refuse_if (not (length xs == n)) 8

  abbrev pub check_held : ℕ → Outcome → Outcome
  check_held n = refuse_if (not (has n r.held)) 9

  abbrev pub check_ticks : Outcome → Outcome
  check_ticks = refuse_if (r.clock == last_clock) 11

  -- 12 if more than the capacity is needed afterwards.
  abbrev pub check_room : Reading → Outcome → Outcome
  check_room r' = refuse_if (nat_lt cap (length r'.versions)) 12

  abbrev pub adding : ℕ → Content → Outcome
  adding s x = check_ticks (check_room (add r s x) (become (add r s x)))

  abbrev pub freezing : Outcome
  freezing = refuse_if (not (nat_lt (length r.held) 8)) 10 (check_ticks (become (frozen r)))

  abbrev pub going : ℕ → Reading → Outcome
  going n r' = check_held n (check_ticks (become r'))

-- The outcome of a call on an open store. (The number of pages that clean loses is not the reading's to say; here it is 0.)
unfoldable pub rule : ℕ → Call → Reading → Outcome
rule cap mount r = refuse cap mount r 1
rule cap close r = tell cap close r (granted [] [])
rule cap count r = tell cap count r (granted (length r.versions ∷ cap ∷ []) [])
rule cap clean r = tell cap clean r (granted (0 ∷ []) [])
rule cap freeze r = freezing cap freeze r
rule cap open_slip r = freezing cap open_slip r
rule cap (write s given) r = let c = write s given in check_sector cap c r s (check_length cap c r 512 given (adding cap c r s (bytes given)))
rule cap (delete s) r =
    let c = delete s in
    check_sector cap c r s (cond (is_none (shown (present r s))) (become cap c r r) (adding cap c r s deleted))
rule cap (read s buffer) r =
    let c = read s buffer in
    check_sector cap c r s (check_length cap c r 512 buffer (tell cap c r (read_answer (shown (present r s)))))
rule cap (look n s buffer) r =
    let c = look n s buffer in
    check_sector cap c r s (check_length cap c r 512 buffer (check_held cap c r n (tell cap c r (read_answer (shown (in_state r n s))))))
rule cap (since s) r = let c = since s in check_sector cap c r s (tell cap c r (granted (born_at (present r s)) []))
rule cap (since_in n s) r =
    let c = since_in n s in
    check_sector cap c r s (check_held cap c r n (tell cap c r (granted (born_at (in_state r n s)) [])))
rule cap (ask_held buffer) r =
    let c = ask_held buffer in
    check_length cap c r 8 buffer (tell cap c r (granted (length r.held ∷ []) (filled 8 (reverse r.held))))
rule cap (ask_label buffer) r =
    let c = ask_label buffer in
    check_length cap c r 32 buffer (tell cap c r (granted (length r.label ∷ []) (filled 32 r.label)))
rule cap (release n) r = going cap (release n) r n (released n r)
rule cap (keep_slip n) r = going cap (keep_slip n) r n (released n r)
rule cap (revert n) r = going cap (revert n) r n (reverted n r)
rule cap (back_slip n) r = going cap (back_slip n) r n (backed n r)
