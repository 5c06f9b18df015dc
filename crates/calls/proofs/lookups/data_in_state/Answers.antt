use Rattle.std.proofs.Common.{sym, subst}
use Rattle.changing.proofs.Adding.{consistent}
use Rattle.calls.specs.Holds.{Holds}
use Rattle.calls.proofs.Data.{holds_data}
use Rattle.calls.proofs.lookups.data_in_state.Goals as goal

pub returns : goal.returns
returns c = λ blocks per pages o h.
    let ix = c.args.ix.now in
    let w = holds_data blocks per pages ix o _ _ (c.page_in_state.ensures.shows blocks per pages (consistent blocks per pages ix o) h) in
    subst (Holds pages ix _) (sym c.data_of.ensures) w
