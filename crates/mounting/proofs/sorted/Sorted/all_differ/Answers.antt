use Rattle.std.proofs.Common.{ltb, rules}
use Rattle.std.proofs.lemmas.List.Sorted.{answers_always}
use Rattle.mounting.proofs.Distinct.{differ_sorted}
use Rattle.mounting.proofs.sorted.Sorted.all_differ.Goals as goal

pub returns : goal.returns
returns c =
    differ_sorted c.args.self.numbers.now c.args.self.rising c.is_sorted_by.result
    (c.is_sorted_by.ensures.cases ltb (answers_always _ _ _ (λ f a r g h. search rules)))
