use Rattle.std.proofs.Common.{sym, subst}
use Rattle.changing.proofs.Adding.{consistent}
use Rattle.calls.specs.Holds.{Holds}
use Rattle.calls.proofs.Data.{holds_data}
use Rattle.calls.proofs.lookups.present_data.Goals as goal

pub returns : goal.returns
returns c = λ blocks per pages o.
    let ix = c.args.ix.now in
    let w = holds_data blocks per pages ix o _ _ (c.present_page.ensures.shows blocks per pages (consistent blocks per pages ix o)) in
    subst (Holds pages ix _) (sym c.data_of.ensures) w
