use Rattle.std.proofs.Common.{[], ◌≡◌, arith}
use Rattle.rules.specs.Told.{told, tick_value}
use Rattle.store.specs.Deeds.{slip_value}
use Rattle.store.proofs.Opened.{opens}
use Rattle.store.proofs.parts.Store.open.Goals as goal

pub returns-clause-does : goal.returns-clause-does
returns-clause-does g c =
    let same : told slip_value [] c.map.result ≡ told tick_value [] c.freeze.result = grind arith in
    rw same (opens _ _ _ c.freeze.ensures.does)
