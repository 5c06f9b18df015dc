use Rattle.std.proofs.Common.{ℕ, List, ◌∙◌, subst}
use Rattle.std.specs.List.Sorted.{IsPermutation}
use Rattle.mounting.proofs.KeyTurns.{keys_are}
use Rattle.mounting.proofs.records.records_of.Goals as goal

pub returns-clause-recorded : goal.returns-clause-recorded
returns-clause-recorded c =
    let ks = c.new.result.numbers.now in
    (ks, subst (λ (l : List ℕ). IsPermutation l ks) (c.fill-n.ensures.are ∙ keys_are c.args.tags.all.now) c.new.ensures, c.linked_records.ensures.recorded)
