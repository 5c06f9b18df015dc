use Rattle.std.proofs.Common.{ap, ◌∙◌}
use Rattle.readings.specs.Mount.{distinct}
use Rattle.mounting.proofs.Distinct.{distinct_shuffled}
use Rattle.mounting.proofs.BirthTurns.{births_are}
use Rattle.mounting.proofs.births.births_differ.Goals as goal

pub returns : goal.returns
returns c = c.all_differ.ensures ∙ distinct_shuffled _ _ c.new.ensures ∙ ap distinct (c.fill-n.ensures.are ∙ births_are c.args.tags.all.now)
