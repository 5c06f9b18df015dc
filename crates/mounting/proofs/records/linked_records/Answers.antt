use Rattle.std.proofs.Common.{◌∙◌, arith, length-set}
use Rattle.std.proofs.lemmas.List.{length-map}
use Rattle.mounting.specs.Tagged.{tag_saying}
use Rattle.mounting.proofs.RecordTurns.{recorded_more}
use Rattle.mounting.proofs.records.linked_records.Goals as goal

pub loop-i-preserved : goal.loop-i-preserved
loop-i-preserved c =
    let few = c.args.tags.few in
    let inv = c.loop-i.invariant in
    let long = inv.long in
    record {
      long = length-set _ _ _ ∙ inv.long;
      so_far = recorded_more c.args.keys.numbers.now c.args.tags.all.now c.loop-i.records c.loop-i.i c.record_of.result (omega arith) (omega arith) _ c.tag-item.is inv.so_far c.record_of.ensures;
    }

pub returns : goal.returns
returns c =
    let e = length-map c.args.tags.all.now tag_saying in
    record { long = c.loop-i.invariant.long; recorded = λ k l. c.loop-i.invariant.so_far k (omega arith) }
