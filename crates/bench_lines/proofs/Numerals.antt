-- A number read digit by digit.
use Rattle.std.proofs.Common.{◌≡◌, ℕ, ◌<◌, ◌≤◌, true, false, cond, ◌&&◌, leb, ◌⊎◌, List, [], ◌∷◌, length, Some, None, fold, Option, Bor, sym, ap, ◌∙◌, subst, refl, inl, inr, arith}
use Rattle.std.proofs.lemmas.Bool.{le-leb, lt-leb, and_right}
use Rattle.std.proofs.lemmas.Bool.Decides.{nat_tests}
use Rattle.std.proofs.lemmas.List.{nil_from_length}
use Rattle.std.specs.Option.{MatchOption, IfSome}
use Rattle.std.specs.Iterator.{Yields}
use Rattle.std.specs.List.{FoldsTo}
use Rattle.std.specs.Slice.Iter.{iter_rest, iter_steps}
use Rattle.std.specs.declared.slice.Iter.{Iter}
use Rattle.std.specs.Char.{is_ascii_digit}
use Rattle.std.specs.Str.{all_ascii_digits}
use Rattle.bench_lines.specs.Numbers.{longer, with_digit, number_to}

-- The number that digits say after a number so far.
abbrev pub number_after : ℕ → ℕ → List ℕ → Option ℕ
number_after most n bs = cond (all_ascii_digits bs && leb (fold longer n bs) most) (Some (fold longer n bs)) None

said_ge : (n : ℕ) (bs : List ℕ) → n ≤ fold longer n bs
said_ge n [] = omega arith
said_ge n (b ∷ bs) = omega (arith, said_ge (longer n b) bs)

-- A digit that a number takes.
pub taken : (most n b : ℕ) {m : ℕ} → with_digit most n b ≡ Some m → (is_ascii_digit b ≡ true) × (m ≡ longer n b) × (m ≤ most)
taken most n b is = (grind (arith, nat_tests), grind (arith, nat_tests), grind (arith, nat_tests))

refused : (most n b : ℕ) → with_digit most n b ≡ None → (is_ascii_digit b ≡ false) ⊎ (most < longer n b)
refused most n b is = grind (arith, nat_tests)

pub number_more : (most n b : ℕ) (bs : List ℕ) {m : ℕ} → with_digit most n b ≡ Some m → number_after most m bs ≡ number_after most n (b ∷ bs)
number_more most n b bs is = let t = taken most n b is in rw (t.1, t.0)

pub number_none : (most n b : ℕ) (bs : List ℕ) → with_digit most n b ≡ None → number_after most n (b ∷ bs) ≡ None
number_none most n b bs is =
    elim (refused most n b is) [
      | inl no_digit ↦ rw no_digit
      | inr above ↦ rw (lt-leb (fold longer (longer n b) bs) most (omega (arith, said_ge (longer n b) bs)), and_right (is_ascii_digit b && all_ascii_digits bs) false refl)
    ]

pub number_all : (most n : ℕ) → n ≤ most → number_after most n [] ≡ Some n
number_all most n h = rw (le-leb n most h)

pub some_digits : (most : ℕ) (word : List ℕ) → (length word ≡ 0 → ⊥) → number_after most 0 word ≡ number_to most word
some_digits most [] h = absurd (h refl)
some_digits most (b ∷ bs) h = refl

-- Digit after digit, in any turns that take one each.
module _ {P : Type 0} (number : P → ℕ) (Good : P → Type 0) (Turn : P → Bor ℕ → P → Type 0) (most : ℕ) (turn : (p : P) (x : Bor ℕ) (q : P) → Good p → Turn p x q → (with_digit most (number p) x.now ≡ Some (number q)) × Good q) where
  pub folded : (xs : List (Bor ℕ)) (s t : Iter ℕ) (p q : P) → Yields iter_steps s xs t → FoldsTo Turn p xs q → number p ≤ most → Good p → (number_after most (number q) (iter_rest t) ≡ number_after most (number p) (iter_rest s)) × (number q ≤ most) × Good q
  folded [] s t p q y f h g =
      let Last : P → Type 0 = λ z. (number_after most (number z) (iter_rest t) ≡ number_after most (number p) (iter_rest s)) × (number z ≤ most) × Good z in
      subst Last f (ap (λ (r : Iter ℕ). number_after most (number p) (iter_rest r)) (sym y), h, g)
  folded (x ∷ xs) s t p q y f h g =
      let one = turn p x f.0 g f.1 in
      let all = folded xs y.0 t f.0 q y.2 f.2 (taken most (number p) x.now one.0).2 one.1 in
      (all.0 ∙ number_more most (number p) x.now (iter_rest y.0) one.0 ∙ ap (number_after most (number p)) (sym y.1), all.1, all.2)

-- The end of the digits, or a byte that is not taken.
pub finished : (most n : ℕ) (r : Option ℕ) (Ends : Type 0) (Stops : Bor ℕ → Type 0) → (Ends → r ≡ Some n) → ((x : Bor ℕ) → Stops x → (with_digit most n x.now ≡ None) × (r ≡ None)) → (o : Option (Bor ℕ)) (t u : Iter ℕ) → iter_steps t o u → MatchOption o Ends Stops → n ≤ most → (r ≡ number_after most n (iter_rest t)) × IfSome r (λ m. m ≤ most)
finished most n r Ends Stops ends stops None t u step m h =
    (ends m ∙ sym (ap (number_after most n) (nil_from_length (iter_rest t) step.0) ∙ number_all most n h), rw (ends m) h)
finished most n r Ends Stops ends stops (Some x) t u step m h =
    let s = stops x m in
    (s.1 ∙ sym (ap (number_after most n) step ∙ number_none most n x.now (iter_rest u) s.0), rw s.1 tt)
