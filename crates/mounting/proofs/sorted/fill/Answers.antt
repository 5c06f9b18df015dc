use Rattle.std.proofs.Common.{◌≡◌, ◌<◌, ◌≤◌, length, sym, refl, ◌∙◌, arith}
use Rattle.std.proofs.lemmas.Fn.{says_at}
use Rattle.mounting.proofs.Filling.{filled_none, filled_some, filled_all}
use Rattle.mounting.proofs.sorted.fill.Goals as goal
use Rattle.mounting.proofs.sorted.fill.Goals.{in-Some, in_default}

pub offset_bounds-out-n : goal.offset_bounds-out-n
offset_bounds-out-n g c = let few = c.args.tags.few in let inv = c.loop-tag.invariant.few in omega arith

pub bounds-out-n : goal.bounds-out-n
bounds-out-n g c = let few = c.args.tags.few in let inv = c.loop-tag.invariant.few in omega arith

pub overflow_add-n : goal.overflow_add-n
overflow_add-n g c = let few = c.args.tags.few in let inv = c.loop-tag.invariant.few in omega arith

pub loop-tag-preserved : goal.loop-tag-preserved
loop-tag-preserved g c =
    let ts = c.args.tags.all.now in
    let few = c.args.tags.few in
    let i = c.loop-tag.tag-index in
    let h : i < length ts = omega arith in
    let n = c.loop-tag.n in
    let out = c.loop-tag.out in
    let inv = c.loop-tag.invariant in
    let room : n ≤ i = inv.few in
    let gives : c.number.result ≡ g.gives c.tag-item.result = c.requires.1.1 _ _ (says_at _ c.number.ensures refl) in
    elim c.match-number.branch [
      | in-Some w ↦ record {
        few = rw w.n-is (omega arith);
        so_far = rw (w.n-is, w.out-is) (filled_some g.gives ts out n i c.tag-item.result h c.tag-item.is w.in-Some.it (omega arith) (sym w.in-Some.is ∙ gives) inv.so_far);
      }
      | in_default w ↦ record { few = rw w.n-is (omega arith); so_far = rw (w.n-is, w.out-is) (filled_none g.gives ts out n i c.tag-item.result h c.tag-item.is (sym w.in_default.is ∙ gives) inv.so_far) }
    ]

pub returns : goal.returns
returns g c =
    let few = c.args.tags.few in
    let inv = c.loop-tag.invariant.few in
    record { few = omega arith; are = filled_all g.gives c.args.tags.all.now c.loop-tag.out c.loop-tag.n c.loop-tag.tag-index (omega arith) c.loop-tag.invariant.so_far }
