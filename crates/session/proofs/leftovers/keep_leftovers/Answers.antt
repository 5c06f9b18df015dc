use Rattle.std.proofs.Common.{◌≡◌, List, ℕ, [], ◌∷◌, rules, ap, ◌∙◌, arith}
use Rattle.rules.specs.declared.types.Tick.{Tick}
use Rattle.rules.specs.Told.{told, tick_value}
use Rattle.session.specs.Requests.{values_of}
use Rattle.session.proofs.Staged.{both, first_kept, on_made, goes_on, goes_to_none, one_more}
use Rattle.session.proofs.leftovers.keep_leftovers.Goals as goal

pub loop-slip-preserved : goal.loop-slip-preserved
loop-slip-preserved g c =
    let inv = c.loop-slip.invariant in
    let outcome = c.map-outcome.result in
    let number = ap (λ (t : Tick). t.0) c.number-state.ensures in
    let as_kept : told values_of [] outcome ≡ told tick_value [] c.keep.result = search rules in
    let call = first_kept _ _ _ _ c.in-Some.slip _ _ _ c.in-Some.ensures.items number as_kept c.keep.ensures.does in
    let empty = ap (λ (buffer : List ℕ). told values_of buffer outcome) (both c.new.ensures.items c.new-in-Some.ensures.items) in
    record {
      room = omega (arith, c.in-Some.ensures.len, c.push_reserved.ensures.len, c.push_reserved.ensures.capacity);
      kept = c.keep.ensures.kept ∙ inv.kept;
      late = c.number-state.result.0 ∷ inv.late;
      goes = goes_on _ _ _ _ _ _ _ _ _ _ _ inv.goes (on_made _ _ _ _ _ _ _ _ c.push_reserved.ensures.items empty call);
      kinds = one_more _ _ _ c.push_reserved.ensures.items inv.kinds (search rules);
    }

pub returns-clause-goes : goal.returns-clause-goes
returns-clause-goes g c =
    let inv = c.loop-slip.invariant in
    (inv.late, rw (← c.into_iter-slips.ensures.rest) (goes_to_none _ _ _ _ _ _ c.loop-slip.slips.rest.items c.loop-slip.slips.rest.ok.0 c.in_default.ensures.cases.0 inv.goes))
