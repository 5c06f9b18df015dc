-- Which numbers are held, told by the events.
use Rattle.std.proofs.Common.{◌≡◌, ℕ, suc, ◌≤◌, Bool, true, false, not, ◌&&◌, ◌||◌, eqb, ltb, leb, ◌↔◌, sym, refl, ap, ◌∙◌, arith}
use Rattle.std.proofs.lemmas.Bool.Decides.{nat_tests}
use Rattle.std.proofs.lemmas.Bool.{or_right}
use Rattle.readings.specs.Versions.{any, has, Reading}
use Rattle.rules.specs.Calls.{Answer}
use Rattle.readings.proofs.Lists.{has_keep}
use Rattle.line.specs.Line.{Effect, first_or}
use Rattle.line.specs.Law.{freezes, ends_by, goes_to}
use Rattle.line.proofs.Steps.{StepBy, refuses, asks, cleaned, closes, mounts, finds_none, writes, deletes, freezes as froze, ends, reverts, backs}

-- n on the reading r; whether it was given, ended and passed
pub record HeldAsTold (n : ℕ) (r : Reading) (given ended passed : Bool) : Type 0 where
  pub is : has n r.held ≡ (given && (not ended && not passed))
  pub given_old : given ≡ true → n ≤ r.clock
  pub ended_old : ended ≡ true → n ≤ r.clock
  pub passed_given : passed ≡ true → given ≡ true

-- the changes: h held, g given, e ended, p passed
freeze_is : (n c : ℕ) (h g e p : Bool) → h ≡ (g && (not e && not p)) → (g ≡ true → n ≤ c) → (e ≡ true → n ≤ c) → (p ≡ true → g ≡ true) →
    (eqb n (suc c) || h) ≡ ((eqb (suc c) n || g) && (not e && not p))
freeze_is n c h g e p i j k q = grind (arith, nat_tests)

release_is : (n m : ℕ) (h g e p : Bool) → h ≡ (g && (not e && not p)) → (h && not (eqb n m)) ≡ (g && (not (eqb m n || e) && not p))
release_is n m h g e p i = grind (arith, nat_tests)

revert_is : (n m : ℕ) (h g e p : Bool) → h ≡ (g && (not e && not p)) → (h && leb n m) ≡ (g && (not e && not ((ltb m n && g) || p)))
revert_is n m h g e p i = grind (arith, nat_tests)

back_is : (n m : ℕ) (h g e p : Bool) → h ≡ (g && (not e && not p)) → (h && ltb n m) ≡ (g && (not (eqb m n || e) && not ((ltb m n && g) || p)))
back_is n m h g e p i = grind (arith, nat_tests)

or_old : (n m c d : ℕ) (e : Bool) → m ≤ d → c ≤ d → (e ≡ true → n ≤ c) → (eqb m n || e) ≡ true → n ≤ d
or_old n m c d e i k j h = grind (arith, nat_tests)

or_given : (a g p : Bool) → (p ≡ true → g ≡ true) → ((a && g) || p) ≡ true → g ≡ true
or_given a g p i h = grind arith

given_of : (g e p : Bool) → (g && (not e && not p)) ≡ true → g ≡ true
given_of g e p h = grind arith

pub held_is_known : (h g e p : Bool) → h ≡ (g && (not e && not p)) → (h ≡ false) ↔ ((not g || (e || p)) ≡ true)
held_is_known h g e p i = (λ k. grind arith, λ k. grind arith)

held_old : {n : ℕ} {r : Reading} {g e p : Bool} → HeldAsTold n r g e p → has n r.held ≡ true → n ≤ r.clock
held_old {g = g} {e = e} {p = p} w h = w.given_old (given_of g e p (sym w.is ∙ h))

up : {P : Type 0} (n c : ℕ) → (P → n ≤ c) → P → n ≤ suc c
up n c h p = let q = h p in omega arith

-- whether a call of an effect, with its answer, gives n, ends it, passes it
abbrev pub gives_by : ℕ → Effect → Answer → Bool
gives_by n f a = eqb a.number 0 && (freezes f && eqb (first_or 0 a.values) n)

abbrev pub ends_with : ℕ → Effect → Answer → Bool
ends_with n f a = eqb a.number 0 && ends_by n f

abbrev pub passes_by : ℕ → Effect → Answer → Bool → Bool
passes_by n f a g = eqb a.number 0 && (goes_to (λ m. ltb m n) f && g)

-- over every step
module _ (g e p : ℕ → Bool) where
  abbrev AllAsTold : Reading → Type 0
  AllAsTold r = (n : ℕ) → HeldAsTold n r (g n) (e n) (p n)

  abbrev Next : Effect → Answer → Reading → ℕ → Type 0
  Next f a r n = HeldAsTold n r (gives_by n f a || g n) (ends_with n f a || e n) (passes_by n f a (g n) || p n)

  -- a tick that changes nothing here
  ticks : {r : Reading} {n : ℕ} (r' : Reading) → r'.held ≡ r.held → r'.clock ≡ suc r.clock → HeldAsTold n r (g n) (e n) (p n) → HeldAsTold n r' (g n) (e n) (p n)
  ticks {r} {n} r' h c w = record {
    is = ap (has n) h ∙ w.is;
    given_old = rw c (up n r.clock w.given_old);
    ended_old = rw c (up n r.clock w.ended_old);
    passed_given = w.passed_given;
  }

  pub told_on : {r r' : Reading} {f : Effect} {a : Answer} → StepBy r f a r' → AllAsTold r → (n : ℕ) → Next f a r' n
  told_on (refuses z) w n = rw z (w n)
  told_on (asks z) w n = rw z (w n)
  told_on (cleaned z) w n = rw z (w n)
  told_on (closes z) w n = rw z (w n)
  told_on mounts w n = w n
  told_on (finds_none s h) w n = w n
  told_on (writes s given) w n = ticks _ refl refl (w n)
  told_on (deletes s h) w n = ticks _ refl refl (w n)
  told_on {r} (froze h) w n = record {
    is = freeze_is n r.clock (has n r.held) (g n) (e n) (p n) (w n).is (w n).given_old (w n).ended_old (w n).passed_given;
    given_old = or_old n (suc r.clock) r.clock (suc r.clock) (g n) (omega arith) (omega arith) (w n).given_old;
    ended_old = up n r.clock (w n).ended_old;
    passed_given = λ h. or_right (eqb (suc r.clock) n) (g n) ((w n).passed_given h);
  }
  told_on {r} (ends m i) w n = record {
    is = has_keep (λ k. not (eqb k m)) r.held n ∙ release_is n m (has n r.held) (g n) (e n) (p n) (w n).is;
    given_old = up n r.clock (w n).given_old;
    ended_old = or_old n m r.clock (suc r.clock) (e n) (let q = held_old (w m) i in omega arith) (omega arith) (w n).ended_old;
    passed_given = (w n).passed_given;
  }
  told_on {r} (reverts m i) w n = record {
    is = has_keep (λ k. leb k m) r.held n ∙ revert_is n m (has n r.held) (g n) (e n) (p n) (w n).is;
    given_old = up n r.clock (w n).given_old;
    ended_old = up n r.clock (w n).ended_old;
    passed_given = or_given (ltb m n) (g n) (p n) (w n).passed_given;
  }
  told_on {r} (backs m i) w n = record {
    is = has_keep (λ k. ltb k m) r.held n ∙ back_is n m (has n r.held) (g n) (e n) (p n) (w n).is;
    given_old = up n r.clock (w n).given_old;
    ended_old = or_old n m r.clock (suc r.clock) (e n) (let q = held_old (w m) i in omega arith) (omega arith) (w n).ended_old;
    passed_given = or_given (ltb m n) (g n) (p n) (w n).passed_given;
  }
