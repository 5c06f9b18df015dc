-- What holds of the state that a run leads to.
use Rattle.std.proofs.Common.{◌≡◌, ℕ, ◌≤◌, Bool, true, false, cond, eqb, List, [], ◌∷◌, ◌++◌, length, refl, ap, ◌∙◌, arith}
use Rattle.readings.specs.Versions.{keep, any, settle}
use Rattle.rules.specs.Calls.{Answer, granted}
use Rattle.line.specs.Line.{Event, effect_of, entries, marks, feed, line_of, clock_after, opens, open_after, is_granted}
use Rattle.line.specs.Law.{gave, ended, passed, gives}
use Rattle.line.specs.Runs.{State, Step, Run}
use Rattle.line.proofs.Steps.{step_by}
use Rattle.line.proofs.Follow.{Follows, follows_on, clock_on, few_on}
use Rattle.line.proofs.History.{HeldAsTold, told_on}
use Rattle.line.proofs.Marks.{Keeps, keeps_on, keeps_from}

pub record Reached (es : List Event) (t : State) : Type 0 where
  pub open_is : t.open? ≡ open_after es
  pub clock_is : t.reading.clock ≡ clock_after es
  pub few : length t.reading.held ≤ 8
  pub follows : Follows t.reading (line_of es)
  pub as_told : (n : ℕ) → HeldAsTold n t.reading (gave n es) (ended n es) (passed n es)

-- a closed store that opens was granted the call
opens_when : (a : Answer) (clock : ℕ) (buffer : List ℕ) (b : Bool) → a ≡ cond b (granted (clock ∷ []) []) (record { number = 2; values = []; buffer = buffer }) →
    b ≡ cond (eqb a.number 0) b false
opens_when a clock buffer true h = rw h
opens_when a clock buffer false h = rw h

opened : (cap : ℕ) (open? : Bool) (s : State) (e : Event) (t : State) → Step cap open? s e t → t.open? ≡ cond (is_granted e) (opens (effect_of e.call) open?) open?
opened cap true s e t h = h.is_open_after
opened cap false s e t h = h.is_open_after ∙ opens_when e.answer s.reading.clock _ (opens (effect_of e.call) false) h.answer

pub reached : (cap : ℕ) (label : List ℕ) (es : List Event) (t : State) → Run cap label es t → Reached es t
unfolding line_of feed clock_after open_after gave ended passed entries marks settle keep
reached cap label [] t h = rw h
    (record {
      open_is = refl;
      clock_is = refl;
      few = omega arith;
      follows = record { held_is = refl; versions_are = refl; falls = tt };
      as_told = λ n. record { is = refl; given_old = λ q. grind arith; ended_old = λ q. grind arith; passed_given = λ q. q };
    })
reached cap label (e ∷ es) t h =
    let s = h.0 in
    let w = reached cap label es s h.1 in
    let m = step_by cap s.open? s e t h.2 in
    record {
      open_is = opened cap s.open? s e t h.2 ∙ ap (λ b. cond (is_granted e) (opens (effect_of e.call) b) b) w.open_is;
      clock_is = clock_on m ∙ rw w.clock_is;
      few = few_on m w.few;
      follows = follows_on (line_of es) m w.follows;
      as_told = told_on (λ n. gave n es) (λ n. ended n es) (λ n. passed n es) m w.as_told;
    }

-- since a freeze gave n
pub kept : (cap : ℕ) (label : List ℕ) (mid : List Event) (frozen : Event) (old : List Event) (t : State) (n : ℕ) → Run cap label (mid ++ frozen ∷ old) t → gives n frozen ≡ true →
    Keeps n (entries (line_of old)) t.reading (line_of (mid ++ frozen ∷ old))
unfolding line_of feed
kept cap label [] e old t n h g = keeps_from n (line_of old) (step_by cap h.0.open? h.0 e t h.2) g
kept cap label (d ∷ mid) e old t n h g =
    let s = h.0 in
    let w = reached cap label (mid ++ e ∷ old) s h.1 in
    keeps_on n (entries (line_of old)) (line_of (mid ++ e ∷ old)) (step_by cap s.open? s d t h.2) w.follows (kept cap label mid e old s n h.1 g)

-- the state before some events
pub earlier : (cap : ℕ) (label : List ℕ) (late es : List Event) (t : State) → Run cap label (late ++ es) t → (s : State) × Run cap label es s
earlier cap label [] es t h = (t, h)
earlier cap label (e ∷ late) es t h = earlier cap label late es h.0 h.1
