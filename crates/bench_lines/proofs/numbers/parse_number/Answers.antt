use Rattle.std.proofs.Common.{◌≡◌, length, sym, refl, ap, ◌∙◌, rules, arith}
use Rattle.std.proofs.lemmas.Bool.{eqb-false}
use Rattle.bench_lines.proofs.Numerals.{number_after, some_digits, folded, finished}
use Rattle.bench_lines.proofs.numbers.parse_number.Goals as goal

pub returns : goal.returns
returns c =
    let most = c.args.most in
    let word = c.args.word.now in
    let ran = c.try_fold.ensures.ran in
    let all = folded (λ p. p.1) (λ p. p.0.0.now ≡ most) _ most (λ p x q h t. search rules) ran.0 _ ran.4.0 _ _ ran.4.1 ran.5 (omega arith) refl in
    let end = finished most ran.3 c.try_fold.result _ _ (λ e. search rules) (λ x s. search rules) ran.1 ran.4.0 _ ran.4.2 ran.6 all.1 in
    let first = some_digits most word (eqb-false (length word) 0 (sym c.if-is_empty.ensures)) in
    record { value = end.0 ∙ all.0 ∙ ap (number_after most 0) c.iter.ensures.rest ∙ first; bound = end.1 }
