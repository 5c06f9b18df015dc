-- Which slips are in hand, by the events alone.
use Rattle.std.specs.Prelude.{◌≡◌, ℕ, Bool, true, false, cond, List, [], ◌∷◌, ◌++◌, map, Some, None, Option, ◌==◌}
use Rattle.readings.specs.Versions.{has}
use Rattle.rules.specs.Calls.{Call, mount, close, count, clean, freeze, open_slip, write, delete, read, look, since, since_in, ask_held, ask_label, release, revert, keep_slip, back_slip, Answer}
use Rattle.line.specs.Line.{Event, first_or}
use Rattle.store.specs.declared.slips.Slip.{Slip}

-- Without the first n.
abbrev pub without : ℕ → List ℕ → List ℕ
without n [] = []
without n (m ∷ ms) = cond (n == m) ms (m ∷ without n ms)

-- A granted open gives a slip; a keep or back spends it, granted or not.
abbrev pub slips_by : Call → Answer → List ℕ → List ℕ
slips_by open_slip a ns = cond (a.number == 0) (ns ++ first_or 0 a.values ∷ []) ns
slips_by (keep_slip n) a ns = without n ns
slips_by (back_slip n) a ns = without n ns
slips_by mount a ns = ns
slips_by close a ns = ns
slips_by count a ns = ns
slips_by clean a ns = ns
slips_by freeze a ns = ns
slips_by (write s given) a ns = ns
slips_by (delete s) a ns = ns
slips_by (read s buffer) a ns = ns
slips_by (look n s buffer) a ns = ns
slips_by (since s) a ns = ns
slips_by (since_in n s) a ns = ns
slips_by (ask_held buffer) a ns = ns
slips_by (ask_label buffer) a ns = ns
slips_by (release n) a ns = ns
slips_by (revert n) a ns = ns

-- The numbers of the slips in hand, in the order of their opens. (Events stand latest first.)
abbrev pub slips_after : List Event → List ℕ
slips_after [] = []
slips_after (e ∷ es) = slips_by e.call e.answer (slips_after es)

-- A keep or back is a call only with its slip in hand; any other can always be made.
abbrev pub can_call : Call → List ℕ → Bool
can_call (keep_slip n) ns = has n ns
can_call (back_slip n) ns = has n ns
can_call mount ns = true
can_call close ns = true
can_call count ns = true
can_call clean ns = true
can_call freeze ns = true
can_call open_slip ns = true
can_call (write s given) ns = true
can_call (delete s) ns = true
can_call (read s buffer) ns = true
can_call (look n s buffer) ns = true
can_call (since s) ns = true
can_call (since_in n s) ns = true
can_call (ask_held buffer) ns = true
can_call (ask_label buffer) ns = true
can_call (release n) ns = true
can_call (revert n) ns = true

abbrev pub slip_number : Slip → ℕ
slip_number s = s.number.0

abbrev pub slip_numbers : List Slip → List ℕ
slip_numbers ss = map slip_number ss

abbrev pub numbered : ℕ → Slip → Bool
numbered n s = n == slip_number s

-- The slip with number n was taken out of a pile, if it was there.
pub record Took (n : ℕ) (ss : List Slip) (slip : Slip) (rest : List Slip) : Type 0 where
  pub has_it : has n (slip_numbers ss) ≡ true
  pub is_it : slip_number slip ≡ n
  pub leaves : slip_numbers rest ≡ without n (slip_numbers ss)

abbrev pub Taken : ℕ → List Slip → Option Slip → List Slip → Type 0
Taken n ss (Some slip) rest = Took n ss slip rest
Taken n ss None rest = (has n (slip_numbers ss) ≡ false) × (rest ≡ ss)
