use Rattle.std.proofs.Common.{None, sym, ap, ◌∙◌, subst}
use Rattle.rules.specs.Calls.{born_at}
use Rattle.store.specs.Views.{seen, reading_of}
use Rattle.mount_report.specs.Lines.{Known, version_in}
use Rattle.mount_report.proofs.Granted.{since_value_lem, since_in_value}
use Rattle.mount_report.proofs.mounted.Mounted.birth_in.Goals as goal

pub returns-in-None : goal.returns-in-None
returns-in-None g c =
    let v = seen g.C.Chip c.args.self.now.store.now in
    let s = c.args.sector in
    since_value_lem v c.args.self.now.ready s c.requires.sector c.since.result None c.unwrap_or.result c.unwrap_or.ensures c.since.ensures
    ∙ ap (λ state. born_at (version_in (reading_of v) state s)) (sym c.in-None.is)

pub returns-in-Some : goal.returns-in-Some
returns-in-Some g c =
    let v = seen g.C.Chip c.args.self.now.store.now in
    let s = c.args.sector in
    let known = subst (Known (reading_of v)) c.in-Some.is c.requires.known in
    since_in_value v c.args.self.now.ready s c.requires.sector c.since_in.result None c.unwrap_or-in-Some.result c.unwrap_or-in-Some.ensures c.in-Some.tick.0 known c.since_in.ensures
    ∙ ap (λ state. born_at (version_in (reading_of v) state s)) (sym c.in-Some.is)
