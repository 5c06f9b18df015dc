-- How a call ends: the rule of the call, where a check hits, and where none does.
use Rattle.std.proofs.Common.{◌≡◌, ℕ, true, false, eqb, ltb, List, [], ◌∷◌, reverse, length, IsErrAnd, Err, Result, sym, refl, ap, ◌∙◌}
use Rattle.std.proofs.lemmas.Result.{err_from_is_err_and}
use Rattle.chip.specs.Pages.{Page}
use Rattle.readings.specs.Versions.{bytes, deleted, has, Reading, add}
use Rattle.readings.specs.Sayings.{sayings}
use Rattle.readings.specs.Reading.{reading}
use Rattle.readings.specs.Changes.{last_clock, frozen, released, reverted, backed, present, in_state}
use Rattle.readings.specs.Mount.{capacity}
use Rattle.tables.specs.declared.index.Index.{Index}
use Rattle.keeping.specs.Opened.{Opened}
use Rattle.rules.specs.Calls.{Call, count, freeze, open_slip, write, delete, read, look, since, since_in, ask_held, ask_label, release, revert, keep_slip, back_slip, Answer, Outcome, refused, granted, refuse, become, tell, read_answer, born_at, filled, shown, is_none, rule, freezing, going}
use Rattle.refusals.specs.declared.types.Refusal.{Refusal}
use Rattle.rules.specs.Told.{refused_by, told}
use Rattle.calls.specs.Follows.{outcome, Followed}

-- The store is left as it is.
module _ (c : Call) (blocks per : ℕ) (pages : List Page) (ix : Index) (o : Opened blocks per pages ix) where
  pub left_alone : (a : Answer) → a ≡ (outcome c blocks per pages).answer → (outcome c blocks per pages).left ≡ reading (sayings pages) →
      Followed c blocks per pages ix a pages ix
  left_alone a e l = record { answer = e; reads = sym l; opened = o; refusal = λ _. (refl, refl) }

  pub refused_so : (n : ℕ) (a : Answer) → a ≡ refused n c → outcome c blocks per pages ≡ refuse (capacity blocks per) c (reading (sayings pages)) n →
      Followed c blocks per pages ix a pages ix
  refused_so n a e r = left_alone a (e ∙ ap (λ (z : Outcome). z.answer) (sym r)) (ap (λ (z : Outcome). z.left) r)

  -- The exit of a `?`, by the refusal `by`.
  pub refused_at : {T : Type 0} (values : T → List ℕ) (n : ℕ) (f by : Refusal) (res : Result T Refusal) → IsErrAnd res (λ y. y ≡ f) → f ≡ by → refused_by by [] ≡ refused n c →
      outcome c blocks per pages ≡ refuse (capacity blocks per) c (reading (sayings pages)) n → Followed c blocks per pages ix (told values [] res) pages ix
  refused_at values n f by res e k a r =
      let p = err_from_is_err_and res e in
      refused_so n (told values [] res) (ap (told values []) (p.1 ∙ ap Err (p.2 ∙ k)) ∙ a) r

-- A query.
module _ (c : Call) (blocks per : ℕ) (pages : List Page) where
  pub refused_told : {T : Type 0} (values : T → List ℕ) (buffer : List ℕ) (n : ℕ) (f by : Refusal) (res : Result T Refusal) → IsErrAnd res (λ y. y ≡ f) → f ≡ by →
      refused_by by buffer ≡ refused n c → outcome c blocks per pages ≡ refuse (capacity blocks per) c (reading (sayings pages)) n →
      told values buffer res ≡ (outcome c blocks per pages).answer
  refused_told values buffer n f by res e k a r =
      let p = err_from_is_err_and res e in
      ap (told values buffer) (p.1 ∙ ap Err (p.2 ∙ k)) ∙ a ∙ ap (λ (z : Outcome). z.answer) (sym r)

  pub answer_told : (a b : Answer) → a ≡ b → outcome c blocks per pages ≡ tell (capacity blocks per) c (reading (sayings pages)) b → a ≡ (outcome c blocks per pages).answer
  answer_told a b e r = e ∙ ap (λ (z : Outcome). z.answer) (sym r)

-- The change to `after` is made.
pub changed_so : (c : Call) (blocks per : ℕ) (pages : List Page) (ix : Index) (after : Reading) (a : Answer) (pages' : List Page) (ix' : Index) →
    outcome c blocks per pages ≡ become (capacity blocks per) c (reading (sayings pages)) after → a ≡ granted (after.clock ∷ []) [] →
    reading (sayings pages') ≡ after → Opened blocks per pages' ix' → Followed c blocks per pages ix a pages' ix'
changed_so c blocks per pages ix after a pages' ix' r e l o =
    record {
      answer = e ∙ ap (λ (z : Outcome). z.answer) (sym r);
      reads = l ∙ ap (λ (z : Outcome). z.left) (sym r);
      opened = o;
      refusal = λ no. absurd (no (ap (λ (z : Answer). z.number) e));
    }

module _ (cap : ℕ) (r : Reading) (s : ℕ) where
  module _ (given : List ℕ) where
    pub write_sector : ltb 2047 s ≡ true → rule cap (write s given) r ≡ refuse cap (write s given) r 7
    unfolding rule
    write_sector h = rw h

    pub write_length : ltb 2047 s ≡ false → eqb (length given) 512 ≡ false → rule cap (write s given) r ≡ refuse cap (write s given) r 8
    unfolding rule
    write_length h l = rw (h, l)

    module _ (h : ltb 2047 s ≡ false) (l : eqb (length given) 512 ≡ true) where
      pub write_ticks : eqb r.clock last_clock ≡ true → rule cap (write s given) r ≡ refuse cap (write s given) r 11
      unfolding rule
      write_ticks t = rw (h, l, t)

      pub write_full : eqb r.clock last_clock ≡ false → ltb cap (length (add r s (bytes given)).versions) ≡ true → rule cap (write s given) r ≡ refuse cap (write s given) r 12
      unfolding rule
      write_full t f = rw (h, l, t, f)

      pub write_granted : eqb r.clock last_clock ≡ false → ltb cap (length (add r s (bytes given)).versions) ≡ false →
          rule cap (write s given) r ≡ become cap (write s given) r (add r s (bytes given))
      unfolding rule
      write_granted t f = rw (h, l, t, f)

  pub delete_sector : ltb 2047 s ≡ true → rule cap (delete s) r ≡ refuse cap (delete s) r 7
  unfolding rule
  delete_sector h = rw h

  pub delete_empty : ltb 2047 s ≡ false → is_none (shown (present r s)) ≡ true → rule cap (delete s) r ≡ become cap (delete s) r r
  unfolding rule
  delete_empty h e = rw (h, e)

  module _ (h : ltb 2047 s ≡ false) (e : is_none (shown (present r s)) ≡ false) where
    pub delete_ticks : eqb r.clock last_clock ≡ true → rule cap (delete s) r ≡ refuse cap (delete s) r 11
    unfolding rule
    delete_ticks t = rw (h, e, t)

    pub delete_full : eqb r.clock last_clock ≡ false → ltb cap (length (add r s deleted).versions) ≡ true → rule cap (delete s) r ≡ refuse cap (delete s) r 12
    unfolding rule
    delete_full t f = rw (h, e, t, f)

    pub delete_granted : eqb r.clock last_clock ≡ false → ltb cap (length (add r s deleted).versions) ≡ false → rule cap (delete s) r ≡ become cap (delete s) r (add r s deleted)
    unfolding rule
    delete_granted t f = rw (h, e, t, f)

-- The queries.
module _ (cap : ℕ) (r : Reading) (s : ℕ) where
  module _ (buffer : List ℕ) where
    pub read_sector : ltb 2047 s ≡ true → rule cap (read s buffer) r ≡ refuse cap (read s buffer) r 7
    unfolding rule
    read_sector h = rw h

    pub read_length : ltb 2047 s ≡ false → eqb (length buffer) 512 ≡ false → rule cap (read s buffer) r ≡ refuse cap (read s buffer) r 8
    unfolding rule
    read_length h l = rw (h, l)

    pub read_granted : ltb 2047 s ≡ false → eqb (length buffer) 512 ≡ true → rule cap (read s buffer) r ≡ tell cap (read s buffer) r (read_answer (shown (present r s)))
    unfolding rule
    read_granted h l = rw (h, l)

    module _ (n : ℕ) where
      pub look_sector : ltb 2047 s ≡ true → rule cap (look n s buffer) r ≡ refuse cap (look n s buffer) r 7
      unfolding rule
      look_sector h = rw h

      pub look_length : ltb 2047 s ≡ false → eqb (length buffer) 512 ≡ false → rule cap (look n s buffer) r ≡ refuse cap (look n s buffer) r 8
      unfolding rule
      look_length h l = rw (h, l)

      module _ (h : ltb 2047 s ≡ false) (l : eqb (length buffer) 512 ≡ true) where
        pub look_unknown : has n r.held ≡ false → rule cap (look n s buffer) r ≡ refuse cap (look n s buffer) r 9
        unfolding rule
        look_unknown k = rw (h, l, k)

        pub look_granted : has n r.held ≡ true → rule cap (look n s buffer) r ≡ tell cap (look n s buffer) r (read_answer (shown (in_state r n s)))
        unfolding rule
        look_granted k = rw (h, l, k)

  pub since_sector : ltb 2047 s ≡ true → rule cap (since s) r ≡ refuse cap (since s) r 7
  unfolding rule
  since_sector h = rw h

  pub since_granted : ltb 2047 s ≡ false → rule cap (since s) r ≡ tell cap (since s) r (granted (born_at (present r s)) [])
  unfolding rule
  since_granted h = rw h

  module _ (n : ℕ) where
    pub since_in_sector : ltb 2047 s ≡ true → rule cap (since_in n s) r ≡ refuse cap (since_in n s) r 7
    unfolding rule
    since_in_sector h = rw h

    pub since_in_unknown : ltb 2047 s ≡ false → has n r.held ≡ false → rule cap (since_in n s) r ≡ refuse cap (since_in n s) r 9
    unfolding rule
    since_in_unknown h k = rw (h, k)

    pub since_in_granted : ltb 2047 s ≡ false → has n r.held ≡ true → rule cap (since_in n s) r ≡ tell cap (since_in n s) r (granted (born_at (in_state r n s)) [])
    unfolding rule
    since_in_granted h k = rw (h, k)

module _ (cap : ℕ) (r : Reading) where
  pub count_granted : rule cap count r ≡ tell cap count r (granted (length r.versions ∷ cap ∷ []) [])
  unfolding rule
  count_granted = refl

  module _ (buffer : List ℕ) where
    pub held_length : eqb (length buffer) 8 ≡ false → rule cap (ask_held buffer) r ≡ refuse cap (ask_held buffer) r 8
    unfolding rule
    held_length l = rw l

    pub held_granted : eqb (length buffer) 8 ≡ true →
        rule cap (ask_held buffer) r ≡ tell cap (ask_held buffer) r (granted (length r.held ∷ []) (filled 8 (reverse r.held)))
    unfolding rule
    held_granted l = rw l

    pub label_length : eqb (length buffer) 32 ≡ false → rule cap (ask_label buffer) r ≡ refuse cap (ask_label buffer) r 8
    unfolding rule
    label_length l = rw l

    pub label_granted : eqb (length buffer) 32 ≡ true → rule cap (ask_label buffer) r ≡ tell cap (ask_label buffer) r (granted (length r.label ∷ []) (filled 32 r.label))
    unfolding rule
    label_granted l = rw l

-- A freeze or an open.
module _ (cap : ℕ) (c : Call) (r : Reading) where
  module _ (e : rule cap c r ≡ freezing cap c r) where
    pub freezing_many : ltb (length r.held) 8 ≡ false → rule cap c r ≡ refuse cap c r 10
    freezing_many h = e ∙ rw h

    pub freezing_ticks : ltb (length r.held) 8 ≡ true → eqb r.clock last_clock ≡ true → rule cap c r ≡ refuse cap c r 11
    freezing_ticks h t = e ∙ rw (h, t)

    pub freezing_granted : ltb (length r.held) 8 ≡ true → eqb r.clock last_clock ≡ false → rule cap c r ≡ become cap c r (frozen r)
    freezing_granted h t = e ∙ rw (h, t)

  -- A release, keep, revert or back.
  module _ (n : ℕ) (after : Reading) (e : rule cap c r ≡ going cap c r n after) where
    pub going_unknown : has n r.held ≡ false → rule cap c r ≡ refuse cap c r 9
    going_unknown h = e ∙ rw h

    pub going_ticks : has n r.held ≡ true → eqb r.clock last_clock ≡ true → rule cap c r ≡ refuse cap c r 11
    going_ticks h t = e ∙ rw (h, t)

    pub going_granted : has n r.held ≡ true → eqb r.clock last_clock ≡ false → rule cap c r ≡ become cap c r after
    going_granted h t = e ∙ rw (h, t)

pub rule_freeze : (cap : ℕ) (r : Reading) → rule cap freeze r ≡ freezing cap freeze r
unfolding rule
rule_freeze cap r = refl

pub rule_open : (cap : ℕ) (r : Reading) → rule cap open_slip r ≡ freezing cap open_slip r
unfolding rule
rule_open cap r = refl

module _ (cap : ℕ) (r : Reading) (n : ℕ) where
  pub rule_release : rule cap (release n) r ≡ going cap (release n) r n (released n r)
  unfolding rule
  rule_release = refl

  pub rule_keep : rule cap (keep_slip n) r ≡ going cap (keep_slip n) r n (released n r)
  unfolding rule
  rule_keep = refl

  pub rule_revert : rule cap (revert n) r ≡ going cap (revert n) r n (reverted n r)
  unfolding rule
  rule_revert = refl

  pub rule_back : rule cap (back_slip n) r ≡ going cap (back_slip n) r n (backed n r)
  unfolding rule
  rule_back = refl
