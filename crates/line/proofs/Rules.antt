-- The rules of the calls, where the arguments are valid.
use Rattle.std.proofs.Common.{◌≡◌, ℕ, suc, ◌<◌, ◌≤◌, true, false, not, eqb, ltb, ◌↔◌, List, [], ◌∷◌, reverse, length, refl, arith}
use mathlib.Core.Option.{Option, none, some}
use Rattle.std.proofs.lemmas.Bool.{le-ltb, eq-eqb, ne_eqb, ltb-false, cond_both, cond-false, not-true}
use Rattle.readings.specs.Versions.{bytes, deleted, has, Reading}
use Rattle.rules.specs.Calls.{Call, mount, close, count, clean, freeze, open_slip, write, delete, read, look, since, since_in, ask_held, ask_label, release, revert, keep_slip, back_slip, Outcome, granted, read_answer, born_at, filled, shown, is_none, tell, become, check_held, check_ticks, adding, freezing, going, rule}
use Rattle.readings.specs.Changes.{last_clock, last_sector, released, reverted, backed, present, in_state}
use Rattle.line.specs.Line.{effect_of, opens}
use Rattle.line.specs.Law.{clock_answer, MakesMark, by_freeze, by_open, ActsOn, by_release, by_keep, by_revert, by_back, Names, by_action, by_look, by_since}
use Rattle.line.specs.Runs.{cleans}

module _ (cap : ℕ) (r : Reading) (s : ℕ) (low : s ≤ 2047) where
  pub rule_read : (buffer : List ℕ) → length buffer ≡ 512 → (rule cap (read s buffer) r).answer ≡ read_answer (shown (present r s))
  unfolding rule
  rule_read buffer h = rw (le-ltb last_sector s low, eq-eqb (length buffer) 512 h)

  pub rule_look : (n : ℕ) (buffer : List ℕ) → length buffer ≡ 512 → has n r.held ≡ true → (rule cap (look n s buffer) r).answer ≡ read_answer (shown (in_state r n s))
  unfolding rule
  rule_look n buffer h k = rw (le-ltb last_sector s low, eq-eqb (length buffer) 512 h, k)

  pub rule_since : (rule cap (since s) r).answer ≡ granted (born_at (present r s)) []
  unfolding rule
  rule_since = rw (le-ltb last_sector s low)

  pub rule_since_in : (n : ℕ) → has n r.held ≡ true → (rule cap (since_in n s) r).answer ≡ granted (born_at (in_state r n s)) []
  unfolding rule
  rule_since_in n k = rw (le-ltb last_sector s low, k)

  pub rule_write : (given : List ℕ) → length given ≡ 512 → (rule cap (write s given) r).answer ≡ (adding cap (write s given) r s (bytes given)).answer
  unfolding rule
  rule_write given h = rw (le-ltb last_sector s low, eq-eqb (length given) 512 h)

  pub rule_delete : is_none (shown (present r s)) ≡ false → (rule cap (delete s) r).answer ≡ (adding cap (delete s) r s deleted).answer
  unfolding rule
  rule_delete h = rw (le-ltb last_sector s low, h)

  pub rule_delete_empty : is_none (shown (present r s)) ≡ true → (rule cap (delete s) r).answer ≡ clock_answer r.clock
  unfolding rule
  rule_delete_empty h = rw (le-ltb last_sector s low, h)

pub rule_held : (cap : ℕ) (r : Reading) (buffer : List ℕ) → length buffer ≡ 8 → (rule cap (ask_held buffer) r).answer ≡ granted (length r.held ∷ []) (filled 8 (reverse r.held))
unfolding rule
rule_held cap r buffer h = rw (eq-eqb (length buffer) 8 h)

-- a change with ticks left, and with none
pub ticks_left : (cap : ℕ) (c : Call) (r : Reading) (o : Outcome) → r.clock < last_clock → check_ticks cap c r o ≡ o
ticks_left cap c r o h = cond-false (eqb r.clock last_clock) _ _ (ne_eqb r.clock last_clock (λ z. omega arith))

pub no_ticks_left : (cap : ℕ) (c : Call) (r : Reading) (o : Outcome) → r.clock ≡ last_clock → (check_ticks cap c r o).answer.number ≡ 11
no_ticks_left cap c r o h = rw (eq-eqb r.clock last_clock h)

-- which numbers a change can be refused with
ticks_number : (cap : ℕ) (c : Call) (r r' : Reading) (n : ℕ) → n < 11 → 0 < n → (check_ticks cap c r (become cap c r r')).answer.number ≡ n → ⊥
ticks_number cap c r r' n h k = cond_both (eqb r.clock last_clock) _ _ (λ (o : Outcome). o.answer.number ≡ n → ⊥) (λ e z. omega arith) (λ e z. omega arith)

-- a release, keep, revert or back
pub acts_rule : {n : ℕ} {c : Call} → ActsOn n c → (cap : ℕ) (r : Reading) →
    (r' : Reading) × (rule cap c r ≡ going cap c r n r') × (r'.clock ≡ suc r.clock) × (cleans (effect_of c) ≡ false)
unfolding rule
acts_rule {n} by_release cap r = (released n r, refl, refl, refl)
acts_rule {n} by_keep cap r = (released n r, refl, refl, refl)
acts_rule {n} by_revert cap r = (reverted n r, refl, refl, refl)
acts_rule {n} by_back cap r = (backed n r, refl, refl, refl)

-- a call that names a state
read_number : (o : Option (List ℕ)) → (read_answer o).number ≡ 9 → ⊥
read_number none z = omega arith
read_number (some bs) z = omega arith

pub names_rule : {n : ℕ} {c : Call} → Names n c → (cap : ℕ) (r : Reading) →
    (o : Outcome) × (rule cap c r ≡ check_held cap c r n o) × (o.answer.number ≡ 9 → ⊥) × (cleans (effect_of c) ≡ false)
unfolding rule
names_rule {n} {c} (by_action h) cap r =
    let a = acts_rule h cap r in
    (check_ticks cap c r (become cap c r a.0), a.1, ticks_number cap c r a.0 9 (omega arith) (omega arith), a.3)
names_rule {n} {c} (by_look s buffer low fit) cap r =
    (tell cap c r (read_answer (shown (in_state r n s))), rw (le-ltb last_sector s low, eq-eqb (length buffer) 512 fit), read_number _, refl)
names_rule {n} {c} (by_since s low) cap r = (tell cap c r (granted (born_at (in_state r n s)) []), rw (le-ltb last_sector s low), λ z. omega arith, refl)

pub nine_if : (cap : ℕ) (c : Call) (r : Reading) (n : ℕ) (o : Outcome) → (o.answer.number ≡ 9 → ⊥) → ((check_held cap c r n o).answer.number ≡ 9) ↔ (has n r.held ≡ false)
nine_if cap c r n o h = (cond_both (not (has n r.held)) _ _ (λ (q : Outcome). q.answer.number ≡ 9 → has n r.held ≡ false) (λ e z. not-true (has n r.held) e) (λ e z. absurd (h z)), λ k. rw k)

-- a freeze or open
pub mark_rule : {c : Call} → MakesMark c → (cap : ℕ) (r : Reading) → (rule cap c r ≡ freezing cap c r) × (cleans (effect_of c) ≡ false)
unfolding rule
mark_rule by_freeze cap r = (refl, refl)
mark_rule by_open cap r = (refl, refl)

pub ten_if : (cap : ℕ) (c : Call) (r : Reading) → length r.held ≤ 8 → ((freezing cap c r).answer.number ≡ 10) ↔ (length r.held ≡ 8)
ten_if cap c r few = (
  cond_both (not (ltb (length r.held) 8)) _ _ (λ (q : Outcome). q.answer.number ≡ 10 → length r.held ≡ 8)
      (λ e z. let q = ltb-false (length r.held) 8 (not-true (ltb (length r.held) 8) e) in omega arith)
      (λ e z. absurd (ticks_number cap c r _ 10 (omega arith) (omega arith) z)),
  λ k. rw (le-ltb (length r.held) 8 (omega arith)),
)

-- a closed store
pub opens_not : (c : Call) → (c ≡ mount → ⊥) → opens (effect_of c) false ≡ false
opens_not mount h = absurd (h refl)
opens_not close h = refl
opens_not count h = refl
opens_not clean h = refl
opens_not freeze h = refl
opens_not open_slip h = refl
opens_not (write s given) h = refl
opens_not (delete s) h = refl
opens_not (read s buffer) h = refl
opens_not (look n s buffer) h = refl
opens_not (since s) h = refl
opens_not (since_in n s) h = refl
opens_not (ask_held buffer) h = refl
opens_not (ask_label buffer) h = refl
opens_not (release n) h = refl
opens_not (revert n) h = refl
opens_not (keep_slip n) h = refl
opens_not (back_slip n) h = refl
