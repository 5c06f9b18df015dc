use Rattle.std.proofs.Common.{◌≡◌, ℕ, length, set, refl, ap, ◌∙◌, subst, arith, length-set}
use Rattle.mounting.proofs.SectorTurns.{Entries, entries_none, entries_other, entries_replaced, entries_last}
use Rattle.mounting.proofs.sectors.sector_map.Goals as goal
use Rattle.mounting.proofs.sectors.sector_map.Goals.{in-Some+then-records-i-eq0, in-Some+else-records-i-eq0, in_default}

pub loop-i-init : goal.loop-i-init
loop-i-init c = record { wide = refl; so_far = entries_none c.args.tags.all.now c.args.records.now 2048 }

pub loop-i-preserved : goal.loop-i-preserved
loop-i-preserved c =
    let ts = c.args.tags.all.now in
    let rs = c.args.records.now in
    let few = c.args.tags.few in
    let i = c.loop-i.i in
    let map = c.loop-i.map in
    let wide = c.loop-i.invariant.wide in
    let inv = c.loop-i.invariant.so_far in
    let at = c.tag-item.is in
    elim c.match-version_of.branch [
      | in-Some+then-records-i-eq0 w ↦
          let to : c.match-version_of.map ≡ set map w.in-Some.version.sector.number i = w.map-is ∙ ap (λ k. set map k i) w.from.ensures in
          record { wide = ap length to ∙ length-set _ _ _ ∙ wide; so_far = rw to (entries_last ts rs i _ (omega arith) at map inv w.in-Some.version wide w.in-Some.ensures w.if-records-i-eq0.true) }
      | in-Some+else-records-i-eq0 w ↦ record { wide = ap length w.map-is ∙ wide; so_far = rw w.map-is (entries_replaced ts rs i _ (omega arith) at map inv w.if-records-i-eq0.false) }
      | in_default w ↦ record { wide = ap length w.map-is ∙ wide; so_far = rw w.map-is (entries_other ts rs i _ (omega arith) at map inv w.in_default.ensures) }
    ]

pub returns : goal.returns
returns c =
    let e : c.loop-i.i ≡ length c.args.tags.all.now = omega arith in
    record { wide = c.loop-i.invariant.wide; entries = subst (λ (n : ℕ). Entries c.args.tags.all.now c.args.records.now n c.loop-i.map) e c.loop-i.invariant.so_far }
