use Rattle.std.proofs.Common.{true, false, refl, ◌∙◌}
use Rattle.limits.specs.Values.{held_of}
use Rattle.rules.specs.Told.{tick_value}
use Rattle.calls.proofs.Exits.{refused_at, going_unknown, going_ticks, going_granted, rule_revert, rule_back}
use Rattle.calls.proofs.Holding.{below_next, below_same}
use Rattle.calls.proofs.Remembered.{clock_test, held_test, can_change, changed_by}
use Rattle.calls.proofs.changes.turn.Goals as goal

pub returns-in_err-check_held : goal.returns-in_err-check_held
returns-in_err-check_held g c =
    let h = c.in_err-check_held.ensures in
    record {
      kept = refl;
      same = refl;
      reverts = λ b o.
          refused_at _ _ _ _ _ o tick_value 9 _ _ _ c.from_residual.ensures.1 h.0 refl (going_unknown _ _ _ _ _ (rule_revert _ _ _) (held_test _ _ _ _ o _ false h.1));
      backs = λ b o.
          refused_at _ _ _ _ _ o tick_value 9 _ _ _ c.from_residual.ensures.1 h.0 refl (going_unknown _ _ _ _ _ (rule_back _ _ _) (held_test _ _ _ _ o _ false h.1));
    }

pub returns-in_err-check_ticks : goal.returns-in_err-check_ticks
returns-in_err-check_ticks g c =
    let h = c.in_err-check_ticks.ensures in
    let k = c.in_ok-check_held.ensures in
    let by = c.from_residual-in_err-check_ticks.ensures.1 in
    record {
      kept = refl;
      same = refl;
      reverts = λ b o.
          refused_at _ _ _ _ _ o tick_value 11 _ _ _ by h.0 refl
          (going_ticks _ _ _ _ _ (rule_revert _ _ _) (held_test _ _ _ _ o _ true k) (clock_test _ _ _ _ o true h.1));
      backs = λ b o.
          refused_at _ _ _ _ _ o tick_value 11 _ _ _ by h.0 refl
          (going_ticks _ _ _ _ _ (rule_back _ _ _) (held_test _ _ _ _ o _ true k) (clock_test _ _ _ _ o true h.1));
    }

pub returns : goal.returns
returns g c =
    let m = g.C.Chip in
    let chip = c.args.chip.now in
    let ix = c.args.ix.now in
    let e = c.go_back-made.ensures in
    let k = c.in_ok-check_held.ensures in
    let clock = c.in_ok-check_ticks.ensures in
    let left = c.hold_below-held.ensures in
    record {
      kept = e.kept;
      same = e.same;
      reverts = λ b o.
          changed_by _ (m.blocks chip) m.per (m.pages chip) ix _ _ _ _ _
          (going_granted _ _ _ _ _ (rule_revert _ _ _) (held_test _ _ _ _ o _ true k) (clock_test _ _ _ _ o false clock))
          ((e.back (can_change (m.blocks chip) m.per (m.pages chip) ix o clock) k).reverts (left ∙ below_next _ _ b (held_of ix.held)))
          c.clock_after.ensures;
      backs = λ b o.
          changed_by _ (m.blocks chip) m.per (m.pages chip) ix _ _ _ _ _
          (going_granted _ _ _ _ _ (rule_back _ _ _) (held_test _ _ _ _ o _ true k) (clock_test _ _ _ _ o false clock))
          ((e.back (can_change (m.blocks chip) m.per (m.pages chip) ix o clock) k).backs (left ∙ below_same _ _ b (held_of ix.held)))
          c.clock_after.ensures;
    }
