use Rattle.std.proofs.Common.{◌≡◌, ℕ, ◌+◌, ◌≤◌, List, All, map, vec_items, vec_len, vec_capacity}
use Rattle.std.specs.Vec.Iter.{into_iter_items, into_iter_len}
use Rattle.rules.specs.Calls.{keep_slip}
use Rattle.store.specs.Views.{seen}
use Rattle.session.specs.Requests.{events_of}
use Rattle.session.specs.Stages.{Goes}
use Rattle.session.specs.Slips.{slip_numbers}
use Rattle.session.specs.Kinds.{OfItsKind}
use Rattle.session.proofs.leftovers.keep_leftovers.Given as goal

abbrev pub invariant-loop-slip : goal.invariant-loop-slip
invariant-loop-slip g l =
    record {
      room : vec_len l.done + into_iter_len l.slips ≤ vec_capacity l.done;
      kept : g.C.Chip.kept l.store.chip ≡ g.C.Chip.kept l.initial.store.chip;
      late : List ℕ;
      goes : Goes (map keep_slip late) (events_of (vec_items l.initial.done)) (seen g.C.Chip l.initial.store) (slip_numbers (into_iter_items l.initial.slips)) (events_of (vec_items l.done)) (seen g.C.Chip l.store) (slip_numbers (into_iter_items l.slips));
      kinds : All OfItsKind (vec_items l.done);
    }

abbrev pub decreases-loop-slip : goal.decreases-loop-slip
decreases-loop-slip g l = into_iter_len l.slips
