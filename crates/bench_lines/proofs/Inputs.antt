-- The lines of an input, one cut off after the other.
use Rattle.std.proofs.Common.{◌≡◌, ℕ, zero, suc, ◌+◌, ◌-◌, ◌<◌, ◌≤◌, min, Bool, true, false, eqb, List, [], ◌∷◌, ◌++◌, map, length, get_or, take, drop, inl, inr, Some, None, Option, Bor, sym, refl, ap, ◌∙◌, arith}
use Rattle.std.proofs.lemmas.List.{append_assoc, append-nil, length-append, take-append-le, nil_from_length, get_or_append_left}
use Rattle.std.proofs.lemmas.Bool.{true≢false, cases_lt}
use Rattle.std.proofs.Math.Bool.{and-true}
use Rattle.std.proofs.Math.Seq.{drop-append_seam}
use Rattle.std.specs.Cmp.Lexicographic.{pointwise}
use Rattle.std.specs.List.{IsFirstMatchOrLen}
use Rattle.std.specs.Option.{MatchOption, unwrap_or}
use Rattle.bench_lines.specs.Commands.{command_of}
use Rattle.bench_lines.specs.Lines.{on_first, lines_of, commands_in}
use Rattle.bench_lines.specs.declared.commands.Command.{Command}

abbrev feed : ℕ → Bool
feed b = eqb b 10

-- The first line ends before the first line feed, at i.
ended : (bs : List ℕ) (i : ℕ) → i < length bs → ((k : ℕ) → k < i → feed (get_or bs k 0) ≡ false) → feed (get_or bs i 0) ≡ true → lines_of bs ≡ take i bs ∷ lines_of (drop (suc i) bs)
ended [] i l before at = absurd (omega arith)
ended (b ∷ bs) zero l before at = rw at
ended (b ∷ bs) (suc i) l before at =
    rw (before 0 (omega arith)) (ap (on_first b) (ended bs i (omega arith) (λ k h. before (suc k) (omega arith)) at))

-- Without a line feed there is one line.
unended : (bs : List ℕ) → 0 < length bs → ((k : ℕ) → k < length bs → feed (get_or bs k 0) ≡ false) → lines_of bs ≡ bs ∷ []
unended [] l none = absurd (omega arith)
unended (b ∷ []) l none = rw (none 0 (omega arith))
unended (b ∷ c ∷ bs) l none =
    rw (none 0 (omega arith)) (ap (on_first b) (unended (c ∷ bs) (omega arith) (λ k h. none (suc k) (omega arith))))

-- A line with its line feed, and the line once that is stripped off.
abbrev Stripped : List ℕ → Option (Bor (List ℕ)) → Type 0
Stripped line o =
    MatchOption o (pointwise eqb (drop (length line - 1) line) (10 ∷ []) ≡ false)
    (λ x. (pointwise eqb (drop (length line - 1) line) (10 ∷ []) ≡ true) × (x.now ≡ take (length line - 1) line) × (length x.now + 1 ≡ length line))

-- A line's last byte.
last_byte : (line : List ℕ) (i : ℕ) → suc i ≡ length line → drop i line ≡ get_or line i 0 ∷ []
last_byte [] i e = absurd (omega arith)
last_byte (b ∷ []) zero e = refl
last_byte (b ∷ c ∷ bs) zero e = absurd (omega arith)
last_byte (b ∷ bs) (suc i) e = last_byte bs i (omega arith)

module _ (rest others : List ℕ) (line : Bor (List ℕ)) (i : ℕ) (is : rest ≡ line.now ++ others) (long : length line.now ≡ min (i + 1) (length rest)) (some : 0 < length rest) (first : IsFirstMatchOrLen feed rest i) where
  abbrev whole : List ℕ
  whole = line.now

  -- The last byte of the line is that of the input at the same place, whatever the place.
  last_is : (k : ℕ) (t : Bool) → suc k ≡ length whole → feed (get_or rest k 0) ≡ t → pointwise eqb (drop (length whole - 1) whole) (10 ∷ []) ≡ t
  last_is k t e at =
      let n : length whole - 1 ≡ k = omega arith in
      let same : get_or rest k 0 ≡ get_or whole k 0 = rw is (get_or_append_left whole others 0 k (omega arith)) in
      rw (n, last_byte whole k e) (and-true (feed (get_or whole k 0)) ∙ ap feed (sym same) ∙ at)

  with_feed : i < length rest → (o : Option (Bor (List ℕ))) → Stripped whole o → lines_of rest ≡ (unwrap_or o line).now ∷ lines_of others
  with_feed l None s = absurd (true≢false (sym (last_is i true (omega arith) (first.1 l 0)) ∙ s))
  with_feed l (Some x) s =
      let n : suc i ≡ length whole = omega arith in
      let m : length whole - 1 ≡ i = omega arith in
      let front : take i rest ≡ x.now = rw is (take-append-le i whole others (omega arith)) ∙ ap (λ k. take k whole) (sym m) ∙ sym s.1 in
      let back : drop (suc i) rest ≡ others = rw (n, is) (drop-append_seam whole others) in
      ended rest i l (λ k h. first.0 k 0 (omega arith) h) (first.1 l 0) ∙ ap (λ k. k ∷ lines_of (drop (suc i) rest)) front ∙ ap (λ k. x.now ∷ lines_of k) back

  without_feed : length rest ≤ i → (o : Option (Bor (List ℕ))) → Stripped whole o → lines_of rest ≡ (unwrap_or o line).now ∷ lines_of others
  without_feed l None s =
      let none : length others ≡ 0 = omega (arith, length-append whole others, ap length is) in
      let all : rest ≡ whole = is ∙ ap (λ k. whole ++ k) (nil_from_length others none) ∙ append-nil whole in
      unended rest some (λ k h. first.0 k 0 (omega arith) (omega arith)) ∙ ap (λ k. k ∷ []) all ∙ ap (λ k. whole ∷ lines_of k) (sym (nil_from_length others none))
  without_feed l (Some x) s =
      let k : length rest - 1 < i = omega arith in
      absurd (true≢false (sym s.0 ∙ last_is (length rest - 1) false (omega arith) (first.0 (length rest - 1) 0 (omega arith) k)))

  -- The line stripped of its line feed is the first of the rest.
  pub line_cut : (o : Option (Bor (List ℕ))) → Stripped whole o → lines_of rest ≡ (unwrap_or o line).now ∷ lines_of others
  line_cut o s = elim (cases_lt i (length rest)) [ inl l ↦ with_feed l o s | inr l ↦ without_feed l o s ]

-- The commands so far with those of the lines to come, before and after a line.
pub command_more : (done : List (Option Command)) (rest line others : List ℕ) {command : Option Command} {more all : List (Option Command)} → lines_of rest ≡ line ∷ lines_of others → command ≡ command_of line → more ≡ done ++ (command ∷ []) → done ++ commands_in rest ≡ all → more ++ commands_in others ≡ all
command_more done rest line others first is more_is inv =
    rw (more_is, is) (append_assoc done _ (commands_in others) ∙ ap (λ lines. done ++ map command_of lines) (sym first) ∙ inv)
