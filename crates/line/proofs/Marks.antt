-- What a mark keeps: the entries before it stay as they were when it was made.
use Rattle.std.proofs.Common.{◌≡◌, ℕ, suc, ◌≤◌, Bool, true, false, cond, not, ◌&&◌, eqb, List, [], ◌∷◌, sym, refl, ap, ◌∙◌, inl, inr, arith}
use Rattle.std.proofs.lemmas.Bool.Decides.{nat_tests}
use Rattle.std.proofs.lemmas.Bool.{eqb-true, eqb-false, eq-eqb, ne_eqb, cond_both, cond-true, and_parts, or_cases, or_right, not-true, false≢true}
use Rattle.readings.specs.Versions.{Version, any, has, Reading}
use Rattle.rules.specs.Calls.{Answer, shown, is_none}
use Rattle.readings.proofs.Lists.{has_keep}
use Rattle.line.specs.Line.{Item, entry, mark, entries, marks, before, unmark, last_of, Effect, extend}
use Rattle.line.specs.Law.{goes_to}
use Rattle.line.proofs.Order.{Falls, marks_below, unmark_entries, unmark_marks}
use Rattle.line.proofs.Steps.{StepBy, refuses, asks, cleaned, closes, mounts, finds_none, writes, deletes, freezes, ends, reverts, backs}
use Rattle.line.proofs.Follow.{Follows, fed}
use Rattle.line.proofs.History.{gives_by}

-- while n is marked, vs are the entries before it
pub record Keeps (n : ℕ) (vs : List Version) (r : Reading) (l : List Item) : Type 0 where
  pub old : n ≤ r.clock
  pub same : has n (marks l) ≡ true → entries (before n l) ≡ vs

before_unmark : (n m : ℕ) (l : List Item) → eqb n m ≡ false → entries (before n (unmark m l)) ≡ entries (before n l)
unfolding entries before unmark
before_unmark n m [] h = refl
before_unmark n m (entry v ∷ l) h = before_unmark n m l h
before_unmark n m (mark k ∷ l) h = let ih = before_unmark n m l h in let u = unmark_entries m l in grind (arith, nat_tests)

before_before : (c n m : ℕ) (l : List Item) → Falls c l → has m (marks l) ≡ true → has n (marks (before m l)) ≡ true →
    (has n (marks l) ≡ true) × (before n (before m l) ≡ before n l)
unfolding entries before marks
before_before c n m [] f h k = (k, refl)
before_before c n m (entry v ∷ l) f h k = before_before v.birth n m l f.1 h k
before_before c n m (mark j ∷ l) f h k = elim (or_cases (eqb m j) (has m (marks l)) h) [
  | inl e ↦ (let q : m ≡ j = eqb-true m j e in
      let i : has n (marks l) ≡ true = rw (eq-eqb j m (sym q)) at k in
      let u = marks_below j l f.1 n i in
      (or_right (eqb n j) (has n (marks l)) i, rw (eq-eqb j m (sym q), ne_eqb j n (λ z. omega arith))))
  | inr e ↦ (let u = marks_below j l f.1 m e in
      let w : eqb j m ≡ false = ne_eqb j m (λ z. omega arith) in
      let ih = before_before j n m l f.1 e (rw w at k) in
      let t = marks_below j l f.1 n ih.0 in
      (or_right (eqb n j) (has n (marks l)) ih.0, rw (w, ne_eqb j n (λ z. omega arith)) ih.1))
]

module _ (n : ℕ) (vs : List Version) (l : List Item) (same : has n (marks l) ≡ true → entries (before n l) ≡ vs) where
  kept_freeze : (c : ℕ) → n ≤ c → has n (marks (mark (suc c) ∷ l)) ≡ true → entries (before n (mark (suc c) ∷ l)) ≡ vs
  unfolding before marks
  kept_freeze c h k = rw (ne_eqb (suc c) n (λ z. omega arith)) (same (rw (ne_eqb n (suc c) (λ z. omega arith)) at k))

  kept_release : (m : ℕ) → has n (marks (unmark m l)) ≡ true → entries (before n (unmark m l)) ≡ vs
  kept_release m h =
      let p = and_parts (has n (marks l)) (not (eqb n m)) (sym (has_keep (λ k. not (eqb k m)) (marks l) n) ∙ sym (ap (has n) (unmark_marks m l)) ∙ h) in
      before_unmark n m l (not-true (eqb n m) p.1) ∙ same p.0

  kept_back : (c m : ℕ) → Falls c l → has m (marks l) ≡ true → has n (marks (before m l)) ≡ true → entries (before n (before m l)) ≡ vs
  kept_back c m f i k = let b = before_before c n m l f i k in ap entries b.1 ∙ same b.0

  kept_revert : (c m : ℕ) → Falls c l → has m (marks l) ≡ true → has n (marks (mark m ∷ before m l)) ≡ true → entries (before n (mark m ∷ before m l)) ≡ vs
  unfolding before marks
  kept_revert c m f i k = go (eqb m n) refl
    where
      go : (b : Bool) → eqb m n ≡ b → entries (cond b (before m l) (before n (before m l))) ≡ vs
      go true e = let q : m ≡ n = eqb-true m n e in rw q (same (rw q at i))
      go false e = kept_back c m f i (rw (ne_eqb n m (λ z. eqb-false m n e (sym z))) at k)

-- over every step
pub keeps_on : {r r' : Reading} {f : Effect} {a : Answer} (n : ℕ) (vs : List Version) (l : List Item) → StepBy r f a r' → Follows r l → Keeps n vs r l → Keeps n vs r' (fed f a l)
unfolding extend before marks
keeps_on n vs l (refuses z) w k = rw z k
keeps_on n vs l (asks z) w k = rw z k
keeps_on n vs l (cleaned z) w k = rw z k
keeps_on n vs l (closes z) w k = rw z k
keeps_on n vs l mounts w k = k
keeps_on {r} n vs l (finds_none s h) w k = cond_both (is_none (shown (last_of s l))) _ _ (Keeps n vs r) (λ t. k) (λ t. record { old = k.old; same = k.same })
keeps_on n vs l (writes s given) w k = record { old = let q = k.old in omega arith; same = k.same }
keeps_on {r' = r'} n vs l (deletes s h) w k = cond_both (is_none (shown (last_of s l))) _ _ (Keeps n vs r')
    (λ t. record { old = let q = k.old in omega arith; same = k.same })
    (λ t. record { old = let q = k.old in omega arith; same = k.same })
keeps_on {r} n vs l (freezes h) w k = record { old = let q = k.old in omega arith; same = kept_freeze n vs l k.same r.clock k.old }
keeps_on n vs l (ends m h) w k = record { old = let q = k.old in omega arith; same = kept_release n vs l k.same m }
keeps_on {r} n vs l (reverts m h) w k = record { old = let q = k.old in omega arith; same = kept_revert n vs l k.same (suc r.clock) m w.falls (rw w.held_is at h) }
keeps_on {r} n vs l (backs m h) w k = record { old = let q = k.old in omega arith; same = kept_back n vs l k.same (suc r.clock) m w.falls (rw w.held_is at h) }

-- from the freeze that gave n
pub keeps_from : {r r' : Reading} {f : Effect} {a : Answer} (n : ℕ) (l : List Item) → StepBy r f a r' → gives_by n f a ≡ true → Keeps n (entries l) r' (fed f a l)
unfolding extend before
keeps_from n l (refuses z) g = absurd (false≢true (rw z at g))
keeps_from n l (asks z) g = absurd (false≢true (rw z at g))
keeps_from n l (cleaned z) g = absurd (false≢true (rw z at g))
keeps_from n l (closes z) g = absurd (false≢true (rw z at g))
keeps_from n l mounts g = absurd (false≢true g)
keeps_from n l (finds_none s h) g = absurd (false≢true g)
keeps_from n l (writes s given) g = absurd (false≢true g)
keeps_from n l (deletes s h) g = absurd (false≢true g)
keeps_from {r} n l (freezes h) g =
    let q : suc r.clock ≡ n = eqb-true (suc r.clock) n g in
    record { old = omega arith; same = λ k. ap entries (cond-true (eqb (suc r.clock) n) l (before n l) g) }
keeps_from n l (ends m h) g = absurd (false≢true g)
keeps_from n l (reverts m h) g = absurd (false≢true g)
keeps_from n l (backs m h) g = absurd (false≢true g)

-- to go back to n takes a mark n, and leaves the entries before it
pub goes_back : {r r' : Reading} {f : Effect} {a : Answer} (n : ℕ) (l : List Item) → StepBy r f a r' → (eqb a.number 0 && goes_to (λ m. eqb m n) f) ≡ true →
    (has n r.held ≡ true) × (entries (fed f a l) ≡ entries (before n l))
unfolding extend entries
goes_back n l (refuses z) g = absurd (false≢true (rw z at g))
goes_back n l (asks z) g = absurd (false≢true (rw z at g))
goes_back n l (cleaned z) g = absurd (false≢true (rw z at g))
goes_back n l (closes z) g = absurd (false≢true (rw z at g))
goes_back n l mounts g = absurd (false≢true g)
goes_back n l (finds_none s h) g = absurd (false≢true g)
goes_back n l (writes s given) g = absurd (false≢true g)
goes_back n l (deletes s h) g = absurd (false≢true g)
goes_back n l (freezes h) g = absurd (false≢true g)
goes_back n l (ends m h) g = absurd (false≢true g)
goes_back {r} n l (reverts m h) g = let q : m ≡ n = eqb-true m n g in (rw q at h, ap (λ k. entries (before k l)) q)
goes_back {r} n l (backs m h) g = let q : m ≡ n = eqb-true m n g in (rw q at h, ap (λ k. entries (before k l)) q)
