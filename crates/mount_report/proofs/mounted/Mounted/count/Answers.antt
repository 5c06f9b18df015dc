use Rattle.store.specs.Views.{seen}
use Rattle.mount_report.proofs.Granted.{count_value_lem}
use Rattle.mount_report.proofs.mounted.Mounted.count.Goals as goal

pub returns : goal.returns
returns g c =
    let v = seen g.C.Chip c.args.self.now.store.now in
    count_value_lem v c.args.self.now.ready c.count.result _ c.unwrap_or.result c.unwrap_or.ensures c.count.ensures
