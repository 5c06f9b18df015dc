use Rattle.std.proofs.Common.{[], ◌∷◌, ◌++◌, replicate, sym, ap, ◌∙◌, add-one}
use Rattle.bench_calls.specs.Fills.{filled_with, fills_to}
use Rattle.bench_calls.proofs.fills.all_fills.Goals as goal

pub loop-byte-init : goal.loop-byte-init
unfolding fills_to
loop-byte-init c = c.in_ok-fills.ensures.items

pub loop-byte-preserved : goal.loop-byte-preserved
unfolding fills_to filled_with
loop-byte-preserved c =
    let n = c.loop-byte.byte in
    c.in_ok-push.ensures.items ∙ ap (λ xs. xs ++ (replicate 512 n ∷ [])) c.loop-byte.invariant ∙ ap fills_to (sym (add-one n))
