-- What each call makes of a store: v is the store before, a the answer, w the store after.
use Rattle.std.specs.Prelude.{true, false, cond, List, [], ◌∷◌, ◌≡◌, ◌≢◌, ℕ, ◌-◌, ◌≤◌, eqb, ltb, length}
use Rattle.readings.specs.Changes.{fresh}
use Rattle.readings.specs.Mount.{mount_verdict, size_fits}
use Rattle.rules.specs.Calls.{Call, mount, close, count, clean, freeze, open_slip, write, delete, read, look, since, since_in, ask_held, ask_label, release, revert, keep_slip, back_slip, Answer, refused, granted, rule}
use Rattle.calls.specs.Follows.{stale_count}
use Rattle.store.specs.declared.slips.Slip.{Slip}
use Rattle.store.specs.Views.{View, is_open, reading_of, capacity_of, Sound, SameSize}

-- The number that a slip stands for.
abbrev pub slip_value : Slip → List ℕ
slip_value s = s.number.0 ∷ []

-- A refusal is the number, and its values where it has any.
abbrev pub refused_with : ℕ → List ℕ → Answer
refused_with n values = record { number = n; values = values; buffer = [] }

-- The call follows its rule: its answer and the new reading are the rule's, applied to the former reading. A refusal changes nothing, and the store stays open and sound.
pub record Follows (c : Call) (v : View) (a : Answer) (w : View) : Type 0 where
  pub answer : a ≡ (rule (capacity_of v) c (reading_of v)).answer
  pub reads : reading_of w ≡ (rule (capacity_of v) c (reading_of v)).left
  pub refusal : (a.number ≢ 0) → w ≡ v
  pub sound : Sound w
  pub stays_open : is_open w ≡ true
  pub same_size : SameSize v w

-- A change: a write, delete, freeze, release, revert, open, keep or back.
pub record Changes (c : Call) (v : View) (a : Answer) (w : View) : Type 0 where
  pub closed : is_open v ≡ false → (a ≡ refused 2 c) × (w ≡ v)
  pub open? : is_open v ≡ true → Sound v → Follows c v a w

-- A query: the store stays as it is.
pub record Asks (c : Call) (v : View) (a : Answer) : Type 0 where
  pub closed : is_open v ≡ false → a ≡ refused 2 c
  pub open? : is_open v ≡ true → Sound v → a ≡ (rule (capacity_of v) c (reading_of v)).answer

-- Clean loses so many stale pages, 0 exactly where there was none, and nothing else is changed. (Which block is cleaned is open: v and w differ in where pages stand.)
pub record Loses (v : View) (a : Answer) (w : View) : Type 0 where
  pub answer : a ≡ granted ((stale_count v.pages - stale_count w.pages) ∷ []) []
  pub no_more : stale_count w.pages ≤ stale_count v.pages
  pub some_lost : stale_count w.pages ≡ stale_count v.pages → stale_count v.pages ≡ 0
  pub reads : reading_of w ≡ reading_of v
  pub sound : Sound w
  pub stays_open : is_open w ≡ true
  pub same_size : SameSize v w

pub record Cleans (v : View) (a : Answer) (w : View) : Type 0 where
  pub closed : is_open v ≡ false → (a ≡ refused 2 clean) × (w ≡ v)
  pub open? : is_open v ≡ true → Sound v → Loses v a w

-- The chip is as it was, and the store open or closed.
pub record SameChip (v w : View) : Type 0 where
  pub same_size : SameSize v w
  pub pages : w.pages ≡ v.pages

pub record Closes (v : View) (a : Answer) (w : View) : Type 0 where
  pub closed : is_open v ≡ false → (a ≡ refused 2 close) × (w ≡ v)
  pub open? : is_open v ≡ true → (a ≡ granted [] []) × SameChip v w × (is_open w ≡ false)

-- What mount answers on a closed store: the clock, or by the pages why they are no store.
abbrev pub mount_answer : View → Answer
mount_answer v =
    let verdict = mount_verdict v.blocks v.per v.pages in
    cond (eqb verdict.number 0) (granted ((reading_of v).clock ∷ []) []) (refused_with verdict.number verdict.values)

pub record Mounted (v : View) (w : View) : Type 0 where
  pub same_chip : SameChip v w
  pub opens : is_open w ≡ true
  pub sound : Sound w

pub record Mounts (v : View) (a : Answer) (w : View) : Type 0 where
  pub open? : is_open v ≡ true → (a ≡ refused 1 mount) × (w ≡ v)
  pub closed : is_open v ≡ false → a ≡ mount_answer v
  pub refusal : (a.number ≡ 0 → ⊥) → w ≡ v
  pub granted : a.number ≡ 0 → Mounted v w

-- What format answers: the first clock, or why it is refused.
abbrev pub format_answer : List ℕ → View → Answer
format_answer label v =
    cond (is_open v) (refused_with 1 [])
    (cond (size_fits v.blocks v.per) (cond (ltb 32 (length label)) (refused_with 4 []) (granted (1 ∷ []) [])) (refused_with 3 []))

-- A fresh store: open and sound, with the label, and nothing else on the chip. (Which page has the register is open.)
pub record Formatted (label : List ℕ) (v w : View) : Type 0 where
  pub same_size : SameSize v w
  pub opens : is_open w ≡ true
  pub sound : Sound w
  pub reads : reading_of w ≡ fresh label

pub record Formats (label : List ℕ) (v : View) (a : Answer) (w : View) : Type 0 where
  pub answer : a ≡ format_answer label v
  pub refusal : (a.number ≡ 0 → ⊥) → w ≡ v
  pub granted : a.number ≡ 0 → Formatted label v w

-- Any call but format.
abbrev pub Does : Call → View → Answer → View → Type 0
Does mount v a w = Mounts v a w
Does close v a w = Closes v a w
Does clean v a w = Cleans v a w
Does freeze v a w = Changes freeze v a w
Does open_slip v a w = Changes open_slip v a w
Does (write s given) v a w = Changes (write s given) v a w
Does (delete s) v a w = Changes (delete s) v a w
Does (release n) v a w = Changes (release n) v a w
Does (revert n) v a w = Changes (revert n) v a w
Does (keep_slip n) v a w = Changes (keep_slip n) v a w
Does (back_slip n) v a w = Changes (back_slip n) v a w
Does count v a w = Asks count v a × (w ≡ v)
Does (read s buffer) v a w = Asks (read s buffer) v a × (w ≡ v)
Does (look n s buffer) v a w = Asks (look n s buffer) v a × (w ≡ v)
Does (since s) v a w = Asks (since s) v a × (w ≡ v)
Does (since_in n s) v a w = Asks (since_in n s) v a × (w ≡ v)
Does (ask_held buffer) v a w = Asks (ask_held buffer) v a × (w ≡ v)
Does (ask_label buffer) v a w = Asks (ask_label buffer) v a × (w ≡ v)
