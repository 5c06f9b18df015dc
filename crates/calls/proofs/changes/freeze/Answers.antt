use Rattle.std.proofs.Common.{true, false, refl}
use Rattle.std.proofs.lemmas.Bool.{le-ltb, lt-ltb}
use Rattle.rules.specs.Told.{tick_value}
use Rattle.calls.proofs.Exits.{refused_at, freezing_many, freezing_ticks, freezing_granted, rule_freeze, rule_open}
use Rattle.calls.proofs.Remembered.{clock_test, count_test, clock_early, can_change, changed_by}
use Rattle.calls.proofs.changes.freeze.Goals as goal

pub returns-in_err-held : goal.returns-in_err-held
returns-in_err-held g c =
    let h = c.in_err-held.ensures in
    record {
      kept = refl;
      same = refl;
      follows = λ o. refused_at _ _ _ _ _ o tick_value 10 _ _ _ c.from_residual.ensures.1 h.0 refl (freezing_many _ _ _ (rule_freeze _ _) (count_test _ _ _ _ o false (le-ltb _ 8 h.1)));
      opens = λ o. refused_at _ _ _ _ _ o tick_value 10 _ _ _ c.from_residual.ensures.1 h.0 refl (freezing_many _ _ _ (rule_open _ _) (count_test _ _ _ _ o false (le-ltb _ 8 h.1)));
    }

pub returns-in_err-check_ticks : goal.returns-in_err-check_ticks
returns-in_err-check_ticks g c =
    let h = c.in_err-check_ticks.ensures in
    let by = c.from_residual-in_err-check_ticks.ensures.1 in
    record {
      kept = refl;
      same = refl;
      follows = λ o. refused_at _ _ _ _ _ o tick_value 11 _ _ _ by h.0 refl (freezing_ticks _ _ _ (rule_freeze _ _) (count_test _ _ _ _ o true (lt-ltb _ 8 c.in_ok-held.ensures.0)) (clock_test _ _ _ _ o true h.1));
      opens = λ o. refused_at _ _ _ _ _ o tick_value 11 _ _ _ by h.0 refl (freezing_ticks _ _ _ (rule_open _ _) (count_test _ _ _ _ o true (lt-ltb _ 8 c.in_ok-held.ensures.0)) (clock_test _ _ _ _ o true h.1));
    }

pub returns : goal.returns
returns g c =
    let m = g.C.Chip in
    let chip = c.args.chip.now in
    let ix = c.args.ix.now in
    let e = c.add_register-made.ensures in
    let h = c.in_ok-held.ensures in
    let clock = c.in_ok-check_ticks.ensures in
    record {
      kept = e.kept;
      same = e.same;
      follows = λ o. changed_by _ (m.blocks chip) m.per (m.pages chip) ix _ _ _ _ _ (freezing_granted _ _ _ (rule_freeze _ _) (count_test (m.blocks chip) m.per (m.pages chip) ix o true (lt-ltb _ 8 h.0)) (clock_test (m.blocks chip) m.per (m.pages chip) ix o false clock)) ((e.registers (can_change (m.blocks chip) m.per (m.pages chip) ix o clock)).freezes (h.1 (clock_early (m.blocks chip) m.per (m.pages chip) ix o clock))) c.clock_after.ensures;
      opens = λ o. changed_by _ (m.blocks chip) m.per (m.pages chip) ix _ _ _ _ _ (freezing_granted _ _ _ (rule_open _ _) (count_test (m.blocks chip) m.per (m.pages chip) ix o true (lt-ltb _ 8 h.0)) (clock_test (m.blocks chip) m.per (m.pages chip) ix o false clock)) ((e.registers (can_change (m.blocks chip) m.per (m.pages chip) ix o clock)).freezes (h.1 (clock_early (m.blocks chip) m.per (m.pages chip) ix o clock))) c.clock_after.ensures;
    }
