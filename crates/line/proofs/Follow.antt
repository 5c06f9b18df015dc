-- The reading follows the line.
use Rattle.std.proofs.Common.{◌≡◌, ℕ, suc, ◌<◌, ◌≤◌, Bool, true, cond, not, ◌&&◌, eqb, ltb, leb, List, [], ◌∷◌, length, sym, refl, ap, ◌∙◌, arith}
use Rattle.std.proofs.lemmas.Bool.Decides.{nat_tests}
use Rattle.std.proofs.ByRecursion.{All-weaker}
use Rattle.std.proofs.lemmas.Bool.{ltb-true, leb-true, and_parts}
use Rattle.readings.specs.Versions.{Content, bytes, deleted, keep, has, now, upto, youngest, needed, settle, Reading, add}
use Rattle.rules.specs.Calls.{Answer, shown, is_none}
use Rattle.readings.specs.Changes.{frozen, released, reverted, backed, present, in_state}
use Rattle.readings.proofs.Lists.{first_ext, all_of, keep_all, has_keep}
use Rattle.readings.proofs.Settle.{settle_fewer, settle_add, settle_cut, settle_freeze, youngest_kept}
use Rattle.line.specs.Line.{Item, mark, entries, marks, before, unmark, last_of, needs, entered, Effect, extend, first_or, tells_clock}
use Rattle.line.proofs.Order.{Falls, falls_more, births_below, marks_below, before_first, needs_same, cut_entries, cut_marks, back_marks, falls_before, unmark_entries, unmark_marks, falls_unmark}
use Rattle.line.proofs.Steps.{StepBy, refuses, asks, cleaned, closes, mounts, finds_none, writes, deletes, freezes, ends, reverts, backs}

pub record Follows (r : Reading) (l : List Item) : Type 0 where
  pub held_is : r.held ≡ marks l
  pub versions_are : r.versions ≡ settle (marks l) (entries l)
  pub falls : Falls (suc r.clock) l

-- a settled list has the youngest of the list
last_is : (s : ℕ) (l : List Item) → youngest now s (entries l) ≡ last_of s l
last_is s l = first_ext _ _ (entries l) (all_of _ (entries l) (λ w. grind (arith, nat_tests)))

pub present_is : (r : Reading) (l : List Item) → Follows r l → (s : ℕ) → present r s ≡ last_of s l
unfolding settle
present_is r l f s =
    ap (youngest now s) f.versions_are ∙ youngest_kept (marks l) (needed (marks l) (entries l)) (entries l) (λ v i h. h) now s tt ∙ last_is s l

pub state_is : (r : Reading) (l : List Item) → Follows r l → (n s : ℕ) → has n r.held ≡ true → in_state r n s ≡ last_of s (before n l)
unfolding settle
state_is r l f n s h =
    let k : has n (marks l) ≡ true = rw f.held_is at h in
    ap (youngest (upto n) s) f.versions_are
    ∙ youngest_kept (marks l) (needed (marks l) (entries l)) (entries l) (λ v i t. t) (upto n) s k
    ∙ before_first (suc r.clock) n l f.falls k s

pub needs_are : (r : Reading) (l : List Item) → Follows r l → length r.versions ≡ needs l
needs_are r l f = ap length f.versions_are ∙ sym (needs_same (suc r.clock) l f.falls)

-- one more entry
pub follows_add : (r : Reading) (l : List Item) → Follows r l → (s : ℕ) (x : Content) → Follows (add r s x) (entered s x (suc r.clock) l)
unfolding entries marks
follows_add r l f s x = record {
  held_is = f.held_is;
  versions_are = rw (f.held_is, f.versions_are)
      (settle_add (marks l) (record { sector = s; birth = suc r.clock; content = x }) (entries l) (births_below (suc r.clock) l f.falls));
  falls = (omega arith, f.falls);
}

follows_freeze : (r : Reading) (l : List Item) → Follows r l → Follows (frozen r) (mark (suc r.clock) ∷ l)
unfolding entries marks
follows_freeze r l f = record {
  held_is = ap (λ ns. suc r.clock ∷ ns) f.held_is;
  versions_are = f.versions_are ∙ sym (settle_freeze (marks l) (suc r.clock) (entries l)
      (All-weaker (λ v. v.birth < suc r.clock) _ (λ v k. omega arith) (entries l) (births_below (suc r.clock) l f.falls)));
  falls = (omega arith, f.falls);
}

follows_release : (r : Reading) (l : List Item) (n : ℕ) → Follows r l → Follows (released n r) (unmark n l)
follows_release r l n f = record {
  held_is = rw f.held_is (sym (unmark_marks n l));
  versions_are = rw (unmark_entries n l, unmark_marks n l, f.held_is, f.versions_are, keep_all (settle (marks l) (entries l)))
      (settle_fewer (marks l) (keep (λ m. not (eqb m n)) (marks l)) (entries l) (λ m i. (and_parts (has m (marks l)) (not (eqb m n)) (rw has_keep at i)).0));
  falls = falls_more (suc r.clock) (suc (suc r.clock)) (unmark n l) (omega arith) (falls_unmark (suc r.clock) n l f.falls);
}

-- held numbers that stay, none of them over n
within_held : (held : List ℕ) (h : ℕ → Bool) (n : ℕ) → ((m : ℕ) → h m ≡ true → m ≤ n) → (m : ℕ) → has m (keep h held) ≡ true → (has m held ≡ true) × (m ≤ n)
within_held held h n sub m i = let r = and_parts (has m held) (h m) (rw has_keep at i) in (r.0, sub m r.1)

follows_revert : (r : Reading) (l : List Item) (n : ℕ) → Follows r l → has n r.held ≡ true → Follows (reverted n r) (mark n ∷ before n l)
unfolding entries marks
follows_revert r l n f holds =
    let k : has n (marks l) ≡ true = rw f.held_is at holds in
    record {
      held_is = rw f.held_is (cut_marks (suc r.clock) n l f.falls k);
      versions_are = rw (← (cut_marks (suc r.clock) n l f.falls k), ← (cut_entries (suc r.clock) n l f.falls k), f.held_is, f.versions_are)
          (settle_cut (marks l) (keep (λ m. leb m n) (marks l)) n (entries l) k (within_held (marks l) (λ m. leb m n) n (λ m t. leb-true m n t)));
      falls = (let q = marks_below (suc r.clock) l f.falls n k in omega arith, falls_before (suc r.clock) n l f.falls k);
    }

follows_back : (r : Reading) (l : List Item) (n : ℕ) → Follows r l → has n r.held ≡ true → Follows (backed n r) (before n l)
follows_back r l n f holds =
    let k : has n (marks l) ≡ true = rw f.held_is at holds in
    record {
      held_is = rw f.held_is (back_marks (suc r.clock) n l f.falls k);
      versions_are = rw (← (back_marks (suc r.clock) n l f.falls k), ← (cut_entries (suc r.clock) n l f.falls k), f.held_is, f.versions_are)
          (settle_cut (marks l) (keep (λ m. ltb m n) (marks l)) n (entries l) k (within_held (marks l) (λ m. ltb m n) n (λ m t. let q = ltb-true m n t in omega arith)));
      falls = falls_more n (suc (suc r.clock)) (before n l) (let q = marks_below (suc r.clock) l f.falls n k in omega arith) (falls_before (suc r.clock) n l f.falls k);
    }

-- the line after a call of an effect, with its answer
abbrev pub fed : Effect → Answer → List Item → List Item
fed f a l = cond (eqb a.number 0) (extend f (first_or 0 a.values) l) l

none_there : (r : Reading) (l : List Item) (s : ℕ) → Follows r l → is_none (shown (present r s)) ≡ is_none (shown (last_of s l))
none_there r l s f = ap (λ o. is_none (shown o)) (present_is r l f s)

-- over every step
pub follows_on : {r r' : Reading} {f : Effect} {a : Answer} (l : List Item) → StepBy r f a r' → Follows r l → Follows r' (fed f a l)
unfolding extend
follows_on l (refuses z) w = rw z w
follows_on l (asks z) w = rw z w
follows_on l (cleaned z) w = rw z w
follows_on l (closes z) w = rw z w
follows_on l mounts w = w
follows_on {r} l (finds_none s h) w = rw (sym (none_there r l s w) ∙ h) w
follows_on {r} l (writes s given) w = follows_add r l w s (bytes given)
follows_on {r} l (deletes s h) w = rw (sym (none_there r l s w) ∙ h) (follows_add r l w s deleted)
follows_on {r} l (freezes h) w = follows_freeze r l w
follows_on {r} l (ends n h) w = follows_release r l n w
follows_on {r} l (reverts n h) w = follows_revert r l n w h
follows_on {r} l (backs n h) w = follows_back r l n w h

-- the clock is the one last told
pub clock_on : {r r' : Reading} {f : Effect} {a : Answer} → StepBy r f a r' → r'.clock ≡ cond (eqb a.number 0 && tells_clock f) (first_or 0 a.values) r.clock
clock_on (refuses z) = rw z
clock_on (asks z) = rw z
clock_on (cleaned z) = rw z
clock_on (closes z) = rw z
clock_on mounts = refl
clock_on (finds_none s h) = refl
clock_on (writes s given) = refl
clock_on (deletes s h) = refl
clock_on (freezes h) = refl
clock_on (ends n h) = refl
clock_on (reverts n h) = refl
clock_on (backs n h) = refl

-- at most 8 numbers are held
length_keep : (h : ℕ → Bool) (ns : List ℕ) → length (keep h ns) ≤ length ns
unfolding keep
length_keep h [] = omega arith
length_keep h (n ∷ ns) = let ih = length_keep h ns in grind arith

pub few_on : {r r' : Reading} {f : Effect} {a : Answer} → StepBy r f a r' → length r.held ≤ 8 → length r'.held ≤ 8
few_on (refuses z) w = w
few_on (asks z) w = w
few_on (cleaned z) w = w
few_on (closes z) w = w
few_on mounts w = w
few_on (finds_none s h) w = w
few_on (writes s given) w = w
few_on (deletes s h) w = w
few_on (freezes h) w = omega arith
few_on {r} (ends n h) w = let q = length_keep (λ m. not (eqb m n)) r.held in omega arith
few_on {r} (reverts n h) w = let q = length_keep (λ m. leb m n) r.held in omega arith
few_on {r} (backs n h) w = let q = length_keep (λ m. ltb m n) r.held in omega arith
