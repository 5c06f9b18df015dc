use Rattle.std.proofs.Common.{sym, refl, ap, ◌∙◌}
use Rattle.session.specs.Requests.{events_of}
use Rattle.session.specs.Slips.{slip_numbers}
use Rattle.session.proofs.Finished.{last_stage, ran}
use Rattle.session.proofs.running.run_session.Goals as goal

pub returns : goal.returns
returns g c =
    let chip = g.C.Chip in
    let made = c.new-store.ensures.chip in
    let back = c.unmount-2.ensures in
    let enough = c.in-Ok.ensures in
    let keeps = c.keep_leftovers-made.ensures.goes in
    let last = last_stage _ c.args.requests.now _ _ _ _ _ keeps.0 _ _ _ _ _ (c.in_default-format.ensures.does.granted refl) enough.blanks (ap events_of enough.none_done) (ap slip_numbers enough.none_in_hand) c.make_calls.ensures.goes keeps.1 in
    record {
      kept = ap chip.kept back ∙ c.keep_leftovers-made.ensures.kept ∙ c.make_calls.ensures.kept ∙ c.format.ensures.kept ∙ ap chip.kept made;
      blocks = ap chip.blocks back ∙ last.blocks_are ∙ ap chip.blocks made;
      ended = ran _ c.args.requests.now _ keeps.0 _ _ _ _ _ (ap chip.blocks made) refl (sym (ap chip.pages back)) last;
      kinds = c.keep_leftovers-made.ensures.kinds;
    }
