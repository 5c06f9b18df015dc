use Rattle.std.proofs.Common.{[], ◌∷◌, reverse, sym, refl, ap, ◌∙◌}
use Rattle.std.proofs.lemmas.List.{reverse-reverse}
use Rattle.limits.specs.Values.{held_of}
use Rattle.rules.specs.Calls.{ask_held, granted, filled}
use Rattle.calls.proofs.Remembered.{held_reads, count_reads}
use Rattle.calls.proofs.Exits.{held_length, held_granted}
use Rattle.calls.proofs.Filled.{listed_told}
use Rattle.calls.proofs.queries.held.Goals as goal

pub returns : goal.returns
returns g c = λ o.
    let ix = c.args.ix.now in
    let old = c.args.buffer.now in
    let count = count_reads _ _ _ ix o in
    let told = ap reverse (held_reads _ _ _ ix o) ∙ reverse-reverse (held_of ix.held) in
    listed_told ix.held (ask_held old) _ _ (g.C.Chip.pages c.args.chip.now) old c.list.new.buffer _ c.list.result c.list.ensures refl
    (sym (λ i. granted (count i ∷ []) (filled 8 (told i)))) (held_length _ _ old) (held_granted _ _ old)
