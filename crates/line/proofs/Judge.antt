-- Every answer of a run, judged by the events before it.
use Rattle.std.proofs.Common.{◌≡◌, ℕ, suc, ◌<◌, Bool, true, false, cond, eqb, ltb, ◌↔◌, List, [], ◌∷◌, ◌++◌, reverse, length, sym, refl, ap, ◌∙◌, subst, arith}
use Rattle.std.proofs.lemmas.List.{length-reverse}
use Rattle.std.proofs.lemmas.Bool.{ltb-true, lt-ltb, cond-false, true≢false}
use Rattle.std.proofs.lemmas.Bool.Decides.{when_true, when_false}
use Rattle.readings.specs.Versions.{Content, bytes, deleted, first, has, Reading, add}
use Rattle.rules.specs.Calls.{Call, mount, close, count, write, delete, read, look, since, since_in, ask_held, Answer, Outcome, granted, read_answer, born_at, filled, shown, is_none, refuse, become, check_held, check_ticks, check_room, adding, freezing, rule}
use Rattle.readings.specs.Changes.{frozen, present, in_state}
use Rattle.line.specs.Line.{Event, Item, entries, marks, before, entered, last_of, needs, effect_of, feed, line_of, clock_after, opens, open_after}
use Rattle.line.specs.Law.{gave, ended, passed, is_unknown, Restored, clock_answer, MakesMark, ActsOn, Names, Ticks, NextClock, RoomJudged, HeldJudged, JudgedOpen, JudgedClosed, Judged}
use Rattle.line.specs.Runs.{State, cleans, StepOpen, StepClosed, Step, Run, Law}
use Rattle.line.proofs.Order.{marks_rise}
use Rattle.line.proofs.Steps.{step_by, step_refusal}
use Rattle.line.proofs.Follow.{Follows, present_is, state_is, needs_are, follows_add}
use Rattle.line.proofs.History.{held_is_known}
use Rattle.line.proofs.Marks.{goes_back}
use Rattle.line.proofs.Reached.{Reached, reached, kept, earlier}
use Rattle.line.proofs.Rules.{rule_read, rule_look, rule_since, rule_since_in, rule_write, rule_delete, rule_delete_empty, rule_held, ticks_left, no_ticks_left, acts_rule, names_rule, nine_if, mark_rule, ten_if, opens_not}

-- 12, or the next clock
module _ (cap : ℕ) (c : Call) (r : Reading) (s : ℕ) (x : Content) (l : List Item) (f : Follows r l) where
  needs_is : length (add r s x).versions ≡ needs (entered s x (suc r.clock) l)
  needs_is = needs_are (add r s x) (entered s x (suc r.clock) l) (follows_add r l f s x)

  fits : Bool → Outcome
  fits b = cond b (refuse cap c r 12) (become cap c r (add r s x))

  full_if : (b : Bool) → (fits b).answer.number ≡ 12 → b ≡ true
  unfolding fits
  full_if true h = refl
  full_if false h = absurd (omega arith)

  else_granted : (b : Bool) → ((fits b).answer.number ≡ 12 → ⊥) → (fits b).answer ≡ clock_answer (suc r.clock)
  unfolding fits
  else_granted true h = absurd (h refl)
  else_granted false h = refl

  full : ((fits (ltb cap (length (add r s x).versions))).answer.number ≡ 12) ↔ (cap < needs (entered s x (suc r.clock) l))
  unfolding fits
  full = (λ h. rw (← needs_is) (ltb-true cap _ (full_if _ h)), λ h. rw (lt-ltb cap (length (add r s x).versions) (rw (← needs_is) at h)))

  room_judged : (a : Answer) (es : List Event) → l ≡ line_of es → r.clock ≡ clock_after es → a ≡ (check_room cap c r (add r s x) (become cap c r (add r s x))).answer → RoomJudged cap a s x es
  unfolding fits
  room_judged a es p q h = record {
    full = rw (← q, ← p, h) full;
    else_granted = rw (← q, h) (else_granted _);
  }

-- an event after the events es, from the state s that they lead to
module _ (cap : ℕ) (label : List ℕ) (es : List Event) (s : State) (run : Run cap label es s) (e : Event) (t : State) (step : Step cap s.open? s e t) where
  at_s : Reached es s
  at_s = reached cap label es s run

  open_step : open_after es ≡ true → StepOpen cap s e t
  open_step o = subst (λ b. Step cap b s e t) (at_s.open_is ∙ o) step

  closed_step : open_after es ≡ false → StepClosed s e t
  closed_step o = subst (λ b. Step cap b s e t) (at_s.open_is ∙ o) step

  answered : (c : Call) → e.call ≡ c → cleans (effect_of c) ≡ false → open_after es ≡ true → e.answer ≡ (rule cap c s.reading).answer
  answered c h q o =
      when_false (e.answer.number ≡ 0) (e.answer ≡ (rule cap e.call s.reading).answer) (ap (λ d. cleans (effect_of d)) h ∙ q) (open_step o).answer
      ∙ ap (λ d. (rule cap d s.reading).answer) h

  held_known : (n : ℕ) → (has n s.reading.held ≡ false) ↔ (is_unknown n es ≡ true)
  held_known n = held_is_known (has n s.reading.held) (gave n es) (ended n es) (passed n es) (at_s.as_told n).is

  shows : (k : ℕ) → present s.reading k ≡ last_of k (line_of es)
  shows k = present_is s.reading (line_of es) at_s.follows k

  -- after a revert or back, the entries are those of the frozen state
  restored : (old : List Event) → Restored es old → entries (line_of es) ≡ entries (line_of old)
  unfolding line_of feed
  restored old w =
      let a = earlier cap label w.late (w.turn ∷ (w.mid ++ w.frozen ∷ old)) s (subst (λ xs. Run cap label xs s) w.are run) in
      let t' = a.0 in
      let s' = a.1.0 in
      let run' = a.1.1 in
      let l = line_of (w.mid ++ w.frozen ∷ old) in
      let b = goes_back w.number l (step_by cap s'.open? s' w.turn t' a.1.2) w.went in
      let f = (reached cap label (w.mid ++ w.frozen ∷ old) s' run').follows in
      ap (λ xs. entries (line_of xs)) w.are ∙ ap entries w.unchanged
      ∙ b.1 ∙ (kept cap label w.mid w.frozen old s' w.number run' w.froze).same (rw f.held_is at b.0)

  known_held : (n : ℕ) → is_unknown n es ≡ false → has n s.reading.held ≡ true
  known_held n u = go (has n s.reading.held) refl
    where
      go : (b : Bool) → has n s.reading.held ≡ b → b ≡ true
      go true h = refl
      go false h = absurd (true≢false (sym ((held_known n).0 h) ∙ u))

  shows_before : (n k : ℕ) → is_unknown n es ≡ false → in_state s.reading n k ≡ last_of k (before n (line_of es))
  shows_before n k u = state_is s.reading (line_of es) at_s.follows n k (known_held n u)

  -- an open store
  module _ (o : open_after es ≡ true) where
    abbrev r : Reading
    r = s.reading

    ticks : (c : Call) (q : Outcome) (P : Type 0) → e.answer ≡ (check_ticks cap c r q).answer → (e.answer ≡ q.answer → P) → Ticks e.answer es P
    ticks c q P h f = record {
      left = λ k. f (h ∙ ap (λ (x : Outcome). x.answer) (ticks_left cap c r q (rw at_s.clock_is k)));
      none_left = λ k. rw h (no_ticks_left cap c r q (at_s.clock_is ∙ k));
    }

    unknown_judged : (n : ℕ) → Names n e.call → (e.answer.number ≡ 9) ↔ (is_unknown n es ≡ true)
    unknown_judged n h =
        let a = names_rule h cap r in
        let x : e.answer ≡ (check_held cap e.call r n a.0).answer = answered e.call refl a.3 o ∙ ap (λ (q : Outcome). q.answer) a.1 in
        let b = nine_if cap e.call r n a.0 a.2 in
        let d = held_known n in
        rw x (λ k. d.0 (b.0 k), λ k. b.1 (d.1 k))

    known_judged : (n : ℕ) → ActsOn n e.call → is_unknown n es ≡ false → Ticks e.answer es (NextClock e.answer es)
    known_judged n h u =
        let a = acts_rule h cap r in
        ticks e.call (become cap e.call r a.0) _ (answered e.call refl a.3 o ∙ ap (λ (q : Outcome). q.answer) a.1 ∙ rw (known_held n u))
        (λ k. k ∙ ap clock_answer (a.2 ∙ ap suc at_s.clock_is))

    added : (c : Call) (k : ℕ) (x : Content) → e.answer ≡ (adding cap c r k x).answer → Ticks e.answer es (RoomJudged cap e.answer k x es)
    added c k x h = ticks c _ _ h (room_judged cap c r k x (line_of es) at_s.follows e.answer es refl at_s.clock_is)

    held_length : length r.held ≡ length (marks (line_of es))
    held_length = ap length at_s.follows.held_is

    frozen_as : MakesMark e.call → e.answer ≡ (freezing cap e.call r).answer
    frozen_as h = let a = mark_rule h cap r in answered e.call refl a.1 o ∙ ap (λ (q : Outcome). q.answer) a.0

    held_judged : (buffer : List ℕ) → e.call ≡ ask_held buffer → length buffer ≡ 8 → HeldJudged e.answer (reverse (marks (line_of es)))
    held_judged buffer h fit =
        let ms = marks (line_of es) in
        record {
          tells = answered (ask_held buffer) h refl o ∙ rule_held cap r buffer fit
              ∙ ap (λ ns. granted (length ns ∷ []) (filled 8 (reverse ns))) at_s.follows.held_is
              ∙ ap (λ n. granted (n ∷ []) (filled 8 (reverse ms))) (sym (length-reverse ms));
          at_most_eight = rw (length-reverse ms, ← held_length) at_s.few;
          rising = marks_rise (suc r.clock) (line_of es) at_s.follows.falls;
        }

    judged_open : JudgedOpen cap e.call e.answer es
    unfolding rule
    judged_open = record {
      read_shows_last_entry = λ k buffer h low fit. answered (read k buffer) h refl o ∙ rule_read cap r k low buffer fit ∙ ap (λ v. read_answer (shown v)) (shows k);
      read_shows_frozen_state = λ k buffer old h low fit w. answered (read k buffer) h refl o ∙ rule_read cap r k low buffer fit
          ∙ ap (λ v. read_answer (shown v)) (shows k) ∙ ap (λ vs. read_answer (shown (first (λ v. eqb v.sector k) vs))) (restored old w);
      look_shows_entry_before_mark = λ n k buffer h low fit u. answered (look n k buffer) h refl o ∙ rule_look cap r k low n buffer fit (known_held n u)
          ∙ ap (λ v. read_answer (shown v)) (shows_before n k u);
      since_tells_birth = λ k h low. answered (since k) h refl o ∙ rule_since cap r k low ∙ ap (λ v. granted (born_at v) []) (shows k);
      since_tells_birth_before_mark = λ n k h low u. answered (since_in n k) h refl o ∙ rule_since_in cap r k low n (known_held n u)
          ∙ ap (λ v. granted (born_at v) []) (shows_before n k u);
      unknown_by_history = unknown_judged;
      known_state_granted = known_judged;
      freeze_full_at_eight = λ h. rw (frozen_as h, ← held_length) (ten_if cap e.call r at_s.few);
      freeze_granted_below_eight = λ h few. ticks e.call (become cap e.call r (frozen r)) _ (frozen_as h ∙ rw (lt-ltb (length r.held) 8 (rw held_length few)))
          (λ k. k ∙ ap (λ n. clock_answer (suc n)) at_s.clock_is);
      write_full_by_need = λ k given h low fit. added (write k given) k (bytes given) (answered (write k given) h refl o ∙ rule_write cap r k low given fit);
      delete_full_by_need = λ k h low some. added (delete k) k deleted (answered (delete k) h refl o ∙ rule_delete cap r k low (ap (λ v. is_none (shown v)) (shows k) ∙ some));
      delete_of_empty_tells_last_clock = λ k h low none. answered (delete k) h refl o ∙ rule_delete_empty cap r k low (ap (λ v. is_none (shown v)) (shows k) ∙ none)
          ∙ ap clock_answer at_s.clock_is;
      count_tells_need = λ h. answered count h refl o ∙ ap (λ n. granted (n ∷ cap ∷ []) []) (needs_are r (line_of es) at_s.follows);
      held_tells_marks = held_judged;
      close_granted = λ h. answered close h refl o;
      clean_granted = λ h. when_true (e.answer.number ≡ 0) (e.answer ≡ (rule cap e.call r).answer) (ap (λ d. cleans (effect_of d)) h) (open_step o).answer;
      mount_refused = λ h. answered mount h refl o;
    }

  judged_closed : open_after es ≡ false → JudgedClosed e.call e.answer es
  judged_closed o = record {
    mount_tells_last_clock = λ h. (closed_step o).answer ∙ rw (h, at_s.clock_is);
    others_refused = λ h. (closed_step o).answer ∙ cond-false (opens (effect_of e.call) false) _ _ (opens_not e.call h);
  }

  pub judged : Judged cap e.call e.answer es
  judged = record { refusal = step_refusal cap s.open? s e t step; when_open = judged_open; when_closed = judged_closed }

pub every_run_lawful : Law
every_run_lawful cap label [] t h = tt
every_run_lawful cap label (e ∷ es) t h = (judged cap label es h.0 h.1 e t h.2, every_run_lawful cap label es h.0 h.1)
