use Rattle.calls.proofs.Begun.{reopened}
use Rattle.calls.proofs.opening.mount.Goals as goal

pub returns : goal.returns
returns g c =
    let e = c.mount_index.ensures in
    record { verdict = e.verdict; opened = reopened _ _ _ c.mount_index.result (g.C.Chip.shape.whole c.args.chip.now) e.verdict e.tells }
