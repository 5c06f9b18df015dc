use Rattle.std.proofs.Common.{[], ◌∷◌, length, sym, refl, ap}
use Rattle.rules.specs.Calls.{ask_label, granted, filled}
use Rattle.calls.proofs.Remembered.{label_reads}
use Rattle.calls.proofs.Exits.{label_length, label_granted}
use Rattle.calls.proofs.Filled.{listed_told}
use Rattle.calls.proofs.queries.label.Goals as goal

pub returns : goal.returns
returns g c = λ o.
    let ix = c.args.ix.now in
    let old = c.args.buffer.now in
    listed_told ix.label (ask_label old) _ _ (g.C.Chip.pages c.args.chip.now) old c.list.new.buffer _ c.list.result c.list.ensures refl
    (ap (λ xs. granted (length xs ∷ []) (filled 32 xs)) (sym (label_reads _ _ _ ix o))) (label_length _ _ old) (label_granted _ _ old)
