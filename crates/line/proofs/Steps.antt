-- What a step of a run can be: refused, a call that leaves the reading, or a change with its effect.
use Rattle.std.proofs.Common.{◌≡◌, ℕ, suc, ◌<◌, Bool, true, false, cond, not, eqb, ltb, List, [], length, MatchBool, sym, refl, ◌∙◌, subst}
use mathlib.Core.Option.{Option, none, some}
use Rattle.std.proofs.lemmas.Bool.{cond_both, not-false, false≢true, ltb-true, eq-eqb}
use Rattle.readings.specs.Versions.{Content, bytes, deleted, has, Reading, add}
use Rattle.rules.specs.Calls.{Call, mount, close, count, clean, freeze, open_slip, write, delete, read, look, since, since_in, ask_held, ask_label, release, revert, keep_slip, back_slip, Answer, Outcome, buffer_of, read_answer, shown, is_none, refuse_if, adding, freezing as freeze_outcome, going, rule}
use Rattle.readings.specs.Changes.{last_clock, last_sector, frozen, released, reverted, backed, present}
use Rattle.line.specs.Line.{Event, Effect, mounting, closing, cleaning, asking, freezing, writing, deleting, ending, turning, effect_of, opens}
use Rattle.line.specs.Law.{clock_answer, Refusal}
use Rattle.line.specs.Runs.{State, cleans, Step}

-- from the reading r, by a call of an effect, with its answer, to the next reading
pub data StepBy (r : Reading) : Effect → Answer → Reading → Type 0 where
  refuses : {f : Effect} {a : Answer} → eqb a.number 0 ≡ false → StepBy r f a r
  asks : {a : Answer} → eqb a.number 0 ≡ true → StepBy r asking a r
  cleaned : {a : Answer} → eqb a.number 0 ≡ true → StepBy r cleaning a r
  closes : {a : Answer} → eqb a.number 0 ≡ true → StepBy r closing a r
  mounts : StepBy r mounting (clock_answer r.clock) r
  finds_none : (s : ℕ) → is_none (shown (present r s)) ≡ true → StepBy r (deleting s) (clock_answer r.clock) r
  writes : (s : ℕ) (given : List ℕ) → StepBy r (writing s given) (clock_answer (suc r.clock)) (add r s (bytes given))
  deletes : (s : ℕ) → is_none (shown (present r s)) ≡ false → StepBy r (deleting s) (clock_answer (suc r.clock)) (add r s deleted)
  freezes : length r.held < 8 → StepBy r freezing (clock_answer (suc r.clock)) (frozen r)
  ends : (n : ℕ) → has n r.held ≡ true → StepBy r (ending n) (clock_answer (suc r.clock)) (released n r)
  reverts : (n : ℕ) → has n r.held ≡ true → StepBy r (turning true n) (clock_answer (suc r.clock)) (reverted n r)
  backs : (n : ℕ) → has n r.held ≡ true → StepBy r (turning false n) (clock_answer (suc r.clock)) (backed n r)

-- the rules: such a step, and a refusal tells nothing but its number
abbrev By : Call → Reading → Outcome → Type 0
By c r o = StepBy r (effect_of c) o.answer o.left × Refusal c o.answer

is_zero : {P : Type 0} → (◌≡◌ {A = ℕ} 0 0 → ⊥) → P
is_zero h = absurd (h refl)

module _ (cap : ℕ) (c : Call) (r : Reading) where
  unless : (test : Bool) (n : ℕ) → eqb n 0 ≡ false → (o : Outcome) → (test ≡ false → By c r o) → By c r (refuse_if cap c r test n o)
  unless test n z o h = cond_both test _ _ (By c r) (λ e. (refuses z, λ k. refl)) h

  by_adding : (s : ℕ) (x : Content) → StepBy r (effect_of c) (clock_answer (suc r.clock)) (add r s x) → By c r (adding cap c r s x)
  by_adding s x h = unless (eqb r.clock last_clock) 11 refl _ (λ e. unless (ltb cap (length (add r s x).versions)) 12 refl _ (λ t. (h, is_zero)))

  by_freezing : (length r.held < 8 → StepBy r (effect_of c) (clock_answer (suc r.clock)) (frozen r)) → By c r (freeze_outcome cap c r)
  by_freezing h = unless (not (ltb (length r.held) 8)) 10 refl _ (λ e. unless (eqb r.clock last_clock) 11 refl _ (λ t. (h (ltb-true (length r.held) 8 (not-false (ltb (length r.held) 8) e)), is_zero)))

  by_going : (n : ℕ) (r' : Reading) → (has n r.held ≡ true → StepBy r (effect_of c) (clock_answer r'.clock) r') → By c r (going cap c r n r')
  by_going n r' h = unless (not (has n r.held)) 9 refl _ (λ e. unless (eqb r.clock last_clock) 11 refl _ (λ t. (h (not-false (has n r.held) e), is_zero)))

by_reading : (c : Call) (r : Reading) → effect_of c ≡ asking → (o : Option (List ℕ)) → By c r (record { answer = read_answer o; left = r })
by_reading c r h none = (rw h (asks refl), is_zero)
by_reading c r h (some bs) = (rw h (asks refl), is_zero)

-- each call by its rule
rule_by : (cap : ℕ) (c : Call) (r : Reading) → By c r (rule cap c r)
unfolding rule
rule_by cap mount r = (refuses refl, λ k. refl)
rule_by cap close r = (closes refl, is_zero)
rule_by cap count r = (asks refl, is_zero)
rule_by cap clean r = (cleaned refl, is_zero)
rule_by cap freeze r = by_freezing cap freeze r freezes
rule_by cap open_slip r = by_freezing cap open_slip r freezes
rule_by cap (write s given) r = let c = write s given in
    unless cap c r (ltb last_sector s) 7 refl _ (λ e. unless cap c r (not (eqb (length given) 512)) 8 refl _ (λ t. by_adding cap c r s (bytes given) (writes s given)))
rule_by cap (delete s) r = let c = delete s in
    unless cap c r (ltb last_sector s) 7 refl _ (λ e. cond_both (is_none (shown (present r s))) _ _ (By c r) (λ t. (finds_none s t, is_zero)) (λ t. by_adding cap c r s deleted (deletes s t)))
rule_by cap (read s buffer) r = let c = read s buffer in
    unless cap c r (ltb last_sector s) 7 refl _ (λ e. unless cap c r (not (eqb (length buffer) 512)) 8 refl _ (λ t. by_reading c r refl _))
rule_by cap (look n s buffer) r = let c = look n s buffer in
    unless cap c r (ltb last_sector s) 7 refl _ (λ e. unless cap c r (not (eqb (length buffer) 512)) 8 refl _ (λ t. unless cap c r (not (has n r.held)) 9 refl _ (λ u. by_reading c r refl _)))
rule_by cap (since s) r = unless cap (since s) r (ltb last_sector s) 7 refl _ (λ e. (asks refl, is_zero))
rule_by cap (since_in n s) r = unless cap (since_in n s) r (ltb last_sector s) 7 refl _ (λ e. unless cap (since_in n s) r (not (has n r.held)) 9 refl _ (λ t. (asks refl, is_zero)))
rule_by cap (ask_held buffer) r = unless cap (ask_held buffer) r (not (eqb (length buffer) 8)) 8 refl _ (λ e. (asks refl, is_zero))
rule_by cap (ask_label buffer) r = unless cap (ask_label buffer) r (not (eqb (length buffer) 32)) 8 refl _ (λ e. (asks refl, is_zero))
rule_by cap (release n) r = by_going cap (release n) r n (released n r) (ends n)
rule_by cap (keep_slip n) r = by_going cap (keep_slip n) r n (released n r) (ends n)
rule_by cap (revert n) r = by_going cap (revert n) r n (reverted n r) (reverts n)
rule_by cap (back_slip n) r = by_going cap (back_slip n) r n (backed n r) (backs n)

-- clean leaves the reading
clean_stays : {r r' : Reading} {f : Effect} {a : Answer} → StepBy r f a r' → cleans f ≡ true → r' ≡ r
clean_stays (refuses z) q = refl
clean_stays (asks z) q = refl
clean_stays (cleaned z) q = refl
clean_stays (closes z) q = refl
clean_stays mounts q = refl
clean_stays (finds_none s h) q = refl
clean_stays (writes s given) q = absurd (false≢true q)
clean_stays (deletes s h) q = absurd (false≢true q)
clean_stays (freezes h) q = absurd (false≢true q)
clean_stays (ends n h) q = absurd (false≢true q)
clean_stays (reverts n h) q = absurd (false≢true q)
clean_stays (backs n h) q = absurd (false≢true q)

cleans_is : (f : Effect) → cleans f ≡ true → f ≡ cleaning
cleans_is cleaning h = refl
cleans_is mounting h = absurd (false≢true h)
cleans_is closing h = absurd (false≢true h)
cleans_is asking h = absurd (false≢true h)
cleans_is freezing h = absurd (false≢true h)
cleans_is (writing s given) h = absurd (false≢true h)
cleans_is (deleting s) h = absurd (false≢true h)
cleans_is (ending n) h = absurd (false≢true h)
cleans_is (turning leaves n) h = absurd (false≢true h)

-- a closed store
closed_by : (r : Reading) (f : Effect) (buffer : List ℕ) → StepBy r f (cond (opens f false) (clock_answer r.clock) (record { number = 2; values = []; buffer = buffer })) r
closed_by r mounting buffer = mounts
closed_by r closing buffer = refuses refl
closed_by r cleaning buffer = refuses refl
closed_by r asking buffer = refuses refl
closed_by r freezing buffer = refuses refl
closed_by r (writing s given) buffer = refuses refl
closed_by r (deleting s) buffer = refuses refl
closed_by r (ending n) buffer = refuses refl
closed_by r (turning leaves n) buffer = refuses refl

-- every step
pub step_by : (cap : ℕ) (open? : Bool) (s : State) (e : Event) (t : State) → Step cap open? s e t → StepBy s.reading (effect_of e.call) e.answer t.reading
step_by cap true s e t h = go (cleans (effect_of e.call)) refl h.answer
  where
    go : (b : Bool) → cleans (effect_of e.call) ≡ b → MatchBool b (e.answer.number ≡ 0) (e.answer ≡ (rule cap e.call s.reading).answer) →
        StepBy s.reading (effect_of e.call) e.answer t.reading
    go true q z =
        let u = cleans_is (effect_of e.call) q in
        rw (u, h.reading ∙ clean_stays (rule_by cap e.call s.reading).0 q) (cleaned (eq-eqb e.answer.number 0 z))
    go false q z =
        subst (StepBy s.reading (effect_of e.call) e.answer) (sym h.reading)
        (subst (λ a. StepBy s.reading (effect_of e.call) a (rule cap e.call s.reading).left) (sym z) (rule_by cap e.call s.reading).0)
step_by cap false s e t h =
    subst (StepBy s.reading (effect_of e.call) e.answer) (sym h.reading)
    (subst (λ a. StepBy s.reading (effect_of e.call) a s.reading) (sym h.answer) (closed_by s.reading (effect_of e.call) (buffer_of e.call)))

pub step_refusal : (cap : ℕ) (open? : Bool) (s : State) (e : Event) (t : State) → Step cap open? s e t → Refusal e.call e.answer
step_refusal cap true s e t h = go (cleans (effect_of e.call)) h.answer
  where
    go : (b : Bool) → MatchBool b (e.answer.number ≡ 0) (e.answer ≡ (rule cap e.call s.reading).answer) → Refusal e.call e.answer
    go true z = λ k. absurd (k z)
    go false z = subst (Refusal e.call) (sym z) (rule_by cap e.call s.reading).1
step_refusal cap false s e t h =
    subst (Refusal e.call) (sym h.answer) (cond_both (opens (effect_of e.call) false) _ _ (Refusal e.call) (λ q. is_zero) (λ q k. refl))
