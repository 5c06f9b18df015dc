use Rattle.std.proofs.Common.{◌≡◌, ◌≤◌, [], ◌∷◌, ◌++◌, length, get_or, sym, refl, ap, ◌∙◌, arith}
use Rattle.std.proofs.lemmas.List.{length_push}
use Rattle.limits.specs.Values.{held_of}
use Rattle.noting.proofs.Holding.{keep_yes, keep_no, keep_end, with_more, held_length}
use Rattle.noting.proofs.held.hold_those.Goals as goal
use Rattle.noting.proofs.held.hold_those.Goals.{then-passes, else-passes}

pub loop-n-preserved : goal.loop-n-preserved
loop-n-preserved g c =
    let held = c.args.held.now in
    let few = held.few in
    let ns = c.as_slice-n-items.result.now in
    let eight : length ns ≤ 8 = omega (arith, ap length c.as_slice-n-items.ensures, held_length held) in
    let left = c.loop-n.left in
    let i = c.loop-n.n-index in
    let n = get_or ns i 0 in
    let inv = c.loop-n.invariant in
    let room = inv.few in
    let test = c.requires.1.1 n c.passes.result c.passes.ensures in
    elim c.if-passes.branch [
      | then-passes w ↦
          let more : held_of c.if-passes.left ≡ held_of left ++ (n ∷ []) =
          ap held_of (w.left-is ∙ w.unwrap_or-left.ensures) ∙ with_more left n w.with.result (omega arith) w.with.ensures in
          record {
            few = omega (arith, ap length more, length_push (held_of left) n);
            so_far = rw more (keep_yes g.kept ns (held_of left) i n c.loop-n-test.true refl (sym test ∙ w.if-passes.true) inv.so_far);
          }
      | else-passes w ↦ record { few = rw w.left-is (omega arith); so_far = rw w.left-is (keep_no g.kept ns (held_of left) i n c.loop-n-test.true refl (sym test ∙ w.if-passes.false) inv.so_far) }
    ]

pub returns : goal.returns
returns g c =
    rw (← c.as_slice-n-items.ensures) (keep_end g.kept c.as_slice-n-items.result.now (held_of c.loop-n.left) c.loop-n.n-index (omega arith) c.loop-n.invariant.so_far)
