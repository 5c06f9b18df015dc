use Rattle.std.proofs.Common.{position, refl, sym, ap, ◌∙◌}
use Rattle.session.specs.Slips.{numbered}
use Rattle.session.proofs.Piles.{none_found, took}
use Rattle.session.proofs.hand.take_slip.Goals as goal

pub returns-in_err-at-clause-taken : goal.returns-in_err-at-clause-taken
returns-in_err-at-clause-taken c =
    let n = c.args.state.0 in
    let none = ap (position (numbered n)) (sym c.as_slice.ensures.value) ∙ sym c.in_err-at.ensures in
    rw c.from_residual.ensures (none_found n c.args.slips.now.items none, refl)

pub returns-clause-taken : goal.returns-clause-taken
returns-clause-taken c =
    let n = c.args.state.0 in
    let some = ap (position (numbered n)) (sym c.as_slice.ensures.value) ∙ sym c.in_ok-at.ensures in
    took n c.args.slips.now.items _ _ _ some c.remove.ensures.value c.remove.ensures.items
