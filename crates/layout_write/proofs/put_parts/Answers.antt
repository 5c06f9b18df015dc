use Rattle.std.proofs.Common.{◌*◌, ◌<◌, length, ap, ◌∙◌, arith}
use lib.Seq.{paste}
use Rattle.layout_write.specs.Written.{contents}
use Rattle.layout_write.proofs.Writes.{lent, length_contents, whole_more, size_fits_lem, parts_more}
use Rattle.layout_write.proofs.put_parts.Goals as goal

pub put-requires : goal.put-requires
put-requires c =
    let rs = c.args.parts.now in
    let i = c.loop-part.part-index in
    let s = size_fits_lem (contents rs) i (omega (arith, length_contents rs)) in
    let e = ap length (lent rs i (omega arith)) in
    omega (arith, s, e)

pub loop-part-preserved : goal.loop-part-preserved
loop-part-preserved c =
    let rs = c.args.parts.now in
    let xs = contents rs in
    let i = c.loop-part.part-index in
    let in-range : i < length xs = omega (arith, length_contents rs) in
    let part = lent rs i (omega arith) in
    let w = whole_more xs i in-range in
    let at = c.loop-part.invariant.1 in (
      omega arith,
      omega (arith, w, ap length part),
      c.put.ensures ∙ (λ k. paste (c.loop-part.invariant.2 k) (at k) (part k) (length (part k))) ∙ parts_more xs i in-range c.args.out.now (4 * length rs) (omega arith),
    )
