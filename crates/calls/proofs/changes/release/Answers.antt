use Rattle.std.proofs.Common.{true, false, refl}
use Rattle.rules.specs.Told.{tick_value}
use Rattle.calls.proofs.Exits.{refused_at, going_unknown, going_ticks, going_granted, rule_release, rule_keep}
use Rattle.calls.proofs.Remembered.{clock_test, held_test, can_change, changed_by}
use Rattle.calls.proofs.changes.release.Goals as goal

pub returns-in_err-check_held : goal.returns-in_err-check_held
returns-in_err-check_held g c =
    let h = c.in_err-check_held.ensures in
    record {
      kept = refl;
      same = refl;
      follows = λ o. refused_at _ _ _ _ _ o tick_value 9 _ _ _ c.from_residual.ensures.1 h.0 refl (going_unknown _ _ _ _ _ (rule_release _ _ _) (held_test _ _ _ _ o _ false h.1));
      keeps = λ o. refused_at _ _ _ _ _ o tick_value 9 _ _ _ c.from_residual.ensures.1 h.0 refl (going_unknown _ _ _ _ _ (rule_keep _ _ _) (held_test _ _ _ _ o _ false h.1));
    }

pub returns-in_err-check_ticks : goal.returns-in_err-check_ticks
returns-in_err-check_ticks g c =
    let h = c.in_err-check_ticks.ensures in
    let by = c.from_residual-in_err-check_ticks.ensures.1 in
    record {
      kept = refl;
      same = refl;
      follows = λ o. refused_at _ _ _ _ _ o tick_value 11 _ _ _ by h.0 refl (going_ticks _ _ _ _ _ (rule_release _ _ _) (held_test _ _ _ _ o _ true c.in_ok-check_held.ensures) (clock_test _ _ _ _ o true h.1));
      keeps = λ o. refused_at _ _ _ _ _ o tick_value 11 _ _ _ by h.0 refl (going_ticks _ _ _ _ _ (rule_keep _ _ _) (held_test _ _ _ _ o _ true c.in_ok-check_held.ensures) (clock_test _ _ _ _ o true h.1));
    }

pub returns : goal.returns
returns g c =
    let m = g.C.Chip in
    let chip = c.args.chip.now in
    let ix = c.args.ix.now in
    let e = c.add_register-made.ensures in
    let clock = c.in_ok-check_ticks.ensures in
    record {
      kept = e.kept;
      same = e.same;
      follows = λ o. changed_by _ (m.blocks chip) m.per (m.pages chip) ix _ _ _ _ _ (going_granted _ _ _ _ _ (rule_release _ _ _) (held_test (m.blocks chip) m.per (m.pages chip) ix o _ true c.in_ok-check_held.ensures) (clock_test (m.blocks chip) m.per (m.pages chip) ix o false clock)) ((e.registers (can_change (m.blocks chip) m.per (m.pages chip) ix o clock)).releases c.args.state.0 c.release_number-held.ensures.held) c.clock_after.ensures;
      keeps = λ o. changed_by _ (m.blocks chip) m.per (m.pages chip) ix _ _ _ _ _ (going_granted _ _ _ _ _ (rule_keep _ _ _) (held_test (m.blocks chip) m.per (m.pages chip) ix o _ true c.in_ok-check_held.ensures) (clock_test (m.blocks chip) m.per (m.pages chip) ix o false clock)) ((e.registers (can_change (m.blocks chip) m.per (m.pages chip) ix o clock)).releases c.args.state.0 c.release_number-held.ensures.held) c.clock_after.ensures;
    }
