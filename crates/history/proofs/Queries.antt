-- A query leaves the reading as it is.
use Rattle.std.proofs.Common.{◌≡◌, ℕ, Bool, cond, not, eqb, ltb, List, length, refl}
use Rattle.std.proofs.lemmas.Bool.{cond_both}
use Rattle.readings.specs.Versions.{has, Reading}
use Rattle.rules.specs.Calls.{count, read, look, since, since_in, ask_held, ask_label, Outcome, rule}

-- A check before what leaves the reading.
leaves : (r : Reading) (test : Bool) (x y : Outcome) → x.left ≡ r → y.left ≡ r → (cond test x y).left ≡ r
leaves r test x y e f = cond_both test x y (λ (o : Outcome). o.left ≡ r) (λ _. e) (λ _. f)

module _ (cap : ℕ) (r : Reading) where
  pub count_leaves : (rule cap count r).left ≡ r
  unfolding rule
  count_leaves = refl

  pub read_leaves : (s : ℕ) (buffer : List ℕ) → (rule cap (read s buffer) r).left ≡ r
  unfolding rule
  read_leaves s buffer = leaves r (ltb 2047 s) _ _ refl (leaves r (not (eqb (length buffer) 512)) _ _ refl refl)

  pub look_leaves : (n s : ℕ) (buffer : List ℕ) → (rule cap (look n s buffer) r).left ≡ r
  unfolding rule
  look_leaves n s buffer = leaves r (ltb 2047 s) _ _ refl (leaves r (not (eqb (length buffer) 512)) _ _ refl (leaves r (not (has n r.held)) _ _ refl refl))

  pub since_leaves : (s : ℕ) → (rule cap (since s) r).left ≡ r
  unfolding rule
  since_leaves s = leaves r (ltb 2047 s) _ _ refl refl

  pub since_in_leaves : (n s : ℕ) → (rule cap (since_in n s) r).left ≡ r
  unfolding rule
  since_in_leaves n s = leaves r (ltb 2047 s) _ _ refl (leaves r (not (has n r.held)) _ _ refl refl)

  pub held_leaves : (buffer : List ℕ) → (rule cap (ask_held buffer) r).left ≡ r
  unfolding rule
  held_leaves buffer = leaves r (not (eqb (length buffer) 8)) _ _ refl refl

  pub label_leaves : (buffer : List ℕ) → (rule cap (ask_label buffer) r).left ≡ r
  unfolding rule
  label_leaves buffer = leaves r (not (eqb (length buffer) 32)) _ _ refl refl
