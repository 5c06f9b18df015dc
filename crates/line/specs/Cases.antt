-- Worked cases, on a store whose capacity is 22.
use Rattle.std.specs.Prelude.{◌≡◌, ℕ, zero, suc, List, [], ◌∷◌, length, replicate}
use Rattle.chip.specs.Pages.{Page}
use Rattle.readings.specs.Versions.{Reading}
use Rattle.rules.specs.Calls.{Call, count, freeze, open_slip, write, delete, read, look, ask_held, release, revert, back_slip, Answer, granted, refused, rule}
use Rattle.readings.specs.Changes.{fresh}
use Rattle.readings.specs.Mount.{capacity, mount_verdict, plain}
use Rattle.line.specs.Law.{clock_answer as clock}

-- The answers that a list of calls gets, one after the other, and the reading that it leaves.
unfoldable pub answers : ℕ → Reading → List Call → List Answer
answers cap r [] = []
answers cap r (c ∷ cs) = (rule cap c r).answer ∷ answers cap (rule cap c r).left cs

unfoldable pub after : ℕ → Reading → List Call → Reading
after cap r [] = r
after cap r (c ∷ cs) = after cap (rule cap c r).left cs

-- Writes of n sectors from s up, the same bytes in each.
unfoldable pub writes : ℕ → ℕ → List ℕ → List Call
writes s zero given = []
writes s (suc n) given = write s given ∷ writes (suc s) n given

abbrev pub counted : ℕ → Answer
counted n = granted (n ∷ 22 ∷ []) []

abbrev pub holds : List ℕ → Answer
holds bs = granted (1 ∷ []) bs

abbrev pub empty : Answer
empty = granted (0 ∷ []) (replicate 512 0)

-- The cases for any label, any contents a and b of a sector, and any buffer for one.
module _ (label a b buffer : List ℕ) where
  abbrev pub frozen_at_three : Reading
  frozen_at_three = after 22 (fresh label) (write 5 a ∷ freeze ∷ write 5 b ∷ [])

  abbrev pub went_back : Reading
  went_back = after 22 (fresh label) (write 5 a ∷ freeze ∷ write 5 b ∷ revert 3 ∷ [])

  abbrev pub went_back_again : Reading
  went_back_again = after 22 (fresh label) (write 5 a ∷ freeze ∷ write 5 b ∷ revert 3 ∷ write 5 b ∷ freeze ∷ revert 3 ∷ [])

  abbrev pub filled_up : Reading
  filled_up = after 22 (fresh label) (writes 0 22 a)

  pub record Worked : Type 0 where
    pub fresh_clock : (fresh label).clock ≡ 1
    pub fresh_count : answers 22 (fresh label) (count ∷ []) ≡ counted 0 ∷ []
    pub look_into_frozen_state :
        answers 22 (fresh label) (write 5 a ∷ freeze ∷ write 5 b ∷ look 3 5 buffer ∷ count ∷ [])
        ≡ clock 2 ∷ clock 3 ∷ clock 4 ∷ holds a ∷ counted 2 ∷ []
    pub state_stands_again : answers 22 frozen_at_three (revert 3 ∷ read 5 buffer ∷ count ∷ []) ≡ clock 5 ∷ holds a ∷ counted 1 ∷ []
    pub newer_state_is_gone :
        answers 22 went_back (write 5 b ∷ freeze ∷ revert 3 ∷ look 7 5 buffer ∷ [])
        ≡ clock 6 ∷ clock 7 ∷ clock 8 ∷ refused 9 (look 7 5 buffer) ∷ []
    pub released_state_is_gone : answers 22 went_back_again (release 3 ∷ revert 3 ∷ []) ≡ clock 9 ∷ refused 9 (revert 3) ∷ []
    pub refused_revert_ticks_not : (after 22 went_back_again (release 3 ∷ revert 3 ∷ [])).clock ≡ 9
    pub full :
        answers 22 filled_up (count ∷ write 0 b ∷ write 22 b ∷ freeze ∷ write 0 a ∷ delete 0 ∷ [])
        ≡ counted 22 ∷ clock 24 ∷ refused 12 (write 22 b) ∷ clock 25 ∷ refused 12 (write 0 a) ∷ refused 12 (delete 0) ∷ []
    pub deletion :
        answers 22 (fresh label) (write 4 a ∷ delete 4 ∷ count ∷ read 4 buffer ∷ delete 7 ∷ [])
        ≡ clock 2 ∷ clock 3 ∷ counted 1 ∷ empty ∷ clock 3 ∷ []
    pub trial_taken_back :
        answers 22 (fresh label) (open_slip ∷ write 1 a ∷ back_slip 2 ∷ read 1 buffer ∷ ask_held (replicate 8 255) ∷ [])
        ≡ clock 2 ∷ clock 3 ∷ clock 4 ∷ empty ∷ granted (0 ∷ []) (replicate 8 0) ∷ []

-- Capacities, and a chip too small.
pub record Sizes : Type 0 where
  pub least : capacity 2 8 ≡ 6
  pub four_blocks : capacity 4 8 ≡ 22
  pub one_block : (pages : List Page) → mount_verdict 1 8 pages ≡ plain 3

abbrev pub Cases : Type 0
Cases = ((label a b buffer : List ℕ) → length a ≡ 512 → length b ≡ 512 → length buffer ≡ 512 → Worked label a b buffer) × Sizes
