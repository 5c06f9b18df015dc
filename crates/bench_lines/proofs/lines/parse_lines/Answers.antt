use Rattle.std.proofs.Common.{List, ℕ, ◌∷◌, Bor, rules, vec_items, eqb, sym, ap, ◌∙◌}
use Rattle.std.proofs.lemmas.List.Sorted.{answers_always}
use Rattle.bench_lines.specs.Lines.{lines_of}
use Rattle.bench_lines.proofs.Inputs.{line_cut, command_more}
use Rattle.bench_lines.proofs.lines.parse_lines.Goals as goal

pub loop-line-preserved : goal.loop-line-preserved
loop-line-preserved c =
    let rest = c.loop-line.line-iterator.rest.now in
    let others = c.next.new.self.rest.now in
    let step = c.in-Some.ensures.steps in
    let first = step.1.2 (λ b. eqb b 10) (answers_always _ _ _ (λ f a r g h. search rules)) in
    let cut = line_cut rest others c.in-Some.line step.1.0 step.0 step.1.1 step.2 first.1 _ c.strip_suffix.ensures.cases in
    let line = cut ∙ ap (λ (l : Bor (List ℕ)). l.now ∷ lines_of others) (sym c.unwrap_or-line.ensures) in
    (search rules, search rules, command_more (vec_items c.loop-line.commands) rest c.unwrap_or-line.result.now others line c.parse_command.ensures c.in_ok-push.ensures.items c.loop-line.invariant.2)
