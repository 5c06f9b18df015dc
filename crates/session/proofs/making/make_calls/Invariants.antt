use Rattle.std.proofs.Common.{◌≡◌, List, ◌++◌, vec_items, vec_len}
use Rattle.rules.specs.Calls.{Call}
use Rattle.store.specs.Views.{seen}
use Rattle.session.specs.Blanks.{blank_calls}
use Rattle.session.specs.Requests.{events_of}
use Rattle.session.specs.Stages.{Goes}
use Rattle.session.specs.Slips.{slip_numbers}
use Rattle.session.proofs.making.make_calls.Given as goal

abbrev pub invariant-loop-blank : goal.invariant-loop-blank
invariant-loop-blank g l =
    let was = l.initial.memory in
    record {
      kept : g.C.Chip.kept l.store.chip ≡ g.C.Chip.kept l.initial.store.chip;
      made : List Call;
      split : blank_calls (vec_items was.blanks) ≡ blank_calls (vec_items l.memory.blanks) ++ made;
      goes : Goes made (events_of (vec_items was.done)) (seen g.C.Chip l.initial.store) (slip_numbers (vec_items was.slips)) (events_of (vec_items l.memory.done)) (seen g.C.Chip l.store) (slip_numbers (vec_items l.memory.slips));
    }

abbrev pub decreases-loop-blank : goal.decreases-loop-blank
decreases-loop-blank g l = vec_len l.memory.blanks
