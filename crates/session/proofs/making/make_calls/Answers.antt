use Rattle.std.proofs.Common.{List, ℕ, ◌∷◌, ap, ◌∙◌, arith}
use Rattle.std.proofs.lemmas.List.{with_items_is}
use Rattle.rules.specs.Told.{told}
use Rattle.session.specs.Requests.{values_of}
use Rattle.session.specs.Blanks.{blank_call}
use Rattle.session.proofs.Staged.{opens_popped, split_popped, pile_bound, on_made, on_left_out, both, goes_on, goes_as, none_left, one_more}
use Rattle.session.proofs.making.make_calls.Goals as goal

pub invariant_of-memory : goal.invariant_of-memory
invariant_of-memory g c =
    let opens = opens_popped _ _ _ c.in-Some.ensures.items in
    let bound = pile_bound _ _ _ _ _ c.loop-blank.memory.slips.items c.perform-outcome.new.slips.items c.perform-outcome.ensures.turn in
    let same = c.perform-outcome.ensures.capacity in
    let fewer = c.in-Some.ensures.cases in
    let long = c.perform-outcome.new.slips.ok.0 in
    record { slip_room = omega (arith, opens, bound, same, long); room = omega (arith, opens, bound, fewer, long, c.push_reserved.ensures.len, c.push_reserved.ensures.capacity); kinds = one_more _ _ _ c.push_reserved.ensures.items c.loop-blank.memory.kinds c.in-Some-outcome.ensures.kind }

pub invariant_of-memory-in-None-1 : goal.invariant_of-memory-in-None-1
invariant_of-memory-in-None-1 g c =
    let opens = opens_popped _ _ _ c.in-Some.ensures.items in
    let bound = pile_bound _ _ _ _ _ c.loop-blank.memory.slips.items c.perform-outcome.new.slips.items c.perform-outcome.ensures.turn in
    let same = c.perform-outcome.ensures.capacity in
    let fewer = c.in-Some.ensures.cases in
    let long = c.perform-outcome.new.slips.ok.0 in
    record { slip_room = omega (arith, opens, bound, same, long); room = omega (arith, opens, bound, fewer, long); kinds = c.loop-blank.memory.kinds }

pub loop-blank-preserved-in-Some-outcome : goal.loop-blank-preserved-in-Some-outcome
loop-blank-preserved-in-Some-outcome g c =
    let inv = c.loop-blank.invariant in
    let popped = c.in-Some.ensures.items in
    let bytes = with_items_is c.in-Some.blank.bytes c.perform-outcome.new.bytes (omega (arith, c.perform-outcome.auto.bytes, c.as_mut_slice.ensures.len)) in
    let numbers = with_items_is c.in-Some.blank.numbers c.perform-outcome.new.numbers (omega (arith, c.perform-outcome.auto.numbers, c.as_mut_slice-in-Some.ensures.len)) in
    let told = ap (λ (buffer : List ℕ). told values_of buffer c.in-Some-outcome.outcome) (both bytes numbers) in
    record {
      kept = c.perform-outcome.ensures.kept ∙ inv.kept;
      made = blank_call c.in-Some.blank ∷ inv.made;
      split = split_popped _ _ _ popped _ _ inv.split;
      goes = goes_on _ _ _ _ _ _ _ _ _ _ _ inv.goes (on_made _ _ _ _ _ _ _ _ c.push_reserved.ensures.items told c.in-Some-outcome.ensures.turn);
    }

pub loop-blank-preserved : goal.loop-blank-preserved
loop-blank-preserved g c =
    let inv = c.loop-blank.invariant in
    record {
      kept = c.perform-outcome.ensures.kept ∙ inv.kept;
      made = blank_call c.in-Some.blank ∷ inv.made;
      split = split_popped _ _ _ c.in-Some.ensures.items _ _ inv.split;
      goes = goes_on _ _ _ _ _ _ _ _ _ _ _ inv.goes (on_left_out _ _ _ _ _ _ c.in_default-outcome.ensures.turn);
    }

pub returns-clause-goes : goal.returns-clause-goes
returns-clause-goes g c =
    let inv = c.loop-blank.invariant in
    let all = none_left _ _ _ _ c.loop-blank.memory.blanks.ok.0 c.in_default.ensures.cases.0 inv.split in
    goes_as _ _ _ _ _ _ _ _ all inv.goes
