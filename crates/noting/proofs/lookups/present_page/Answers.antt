use Rattle.std.proofs.Common.{◌≡◌, sym, subst, rules, arith}
use Rattle.readings.specs.Sayings.{sayings}
use Rattle.readings.specs.Reading.{reading}
use Rattle.readings.specs.Changes.{present}
use Rattle.noting.specs.Lookups.{Shows, present_page}
use Rattle.noting.proofs.Youngest.{shows_present}
use Rattle.noting.proofs.lookups.present_page.Goals as goal

pub returns-clause-shows : goal.returns-clause-shows
returns-clause-shows c =
    let ix = c.args.ix.now in
    let s = c.args.sector.number in
    let last = c.args.sector.last in
    let e : c.then_some.result ≡ present_page ix s = search rules in
    λ blocks per pages con. subst (λ r. Shows pages r (present (reading (sayings pages)) s)) (sym e) (shows_present blocks per pages ix con s (omega arith))
