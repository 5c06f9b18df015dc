use Rattle.std.proofs.Common.{◌≡◌, ◌+◌, ◌*◌, ◌<◌, [], ◌++◌, length, get_or, take, ap, ◌∙◌, arith}
use lib.Seq.{paste}
use Rattle.layout_write.specs.Written.{le16, whole, contents}
use Rattle.layout_write.proofs.Writes.{lent, length_contents, whole_more, size_fits_lem, pairs_more}
use Rattle.layout_write.proofs.put_pairs.Goals as goal

pub pair-requires : goal.pair-requires
pair-requires c =
    let rs = c.args.parts.now in
    let i = c.loop-i.i in
    let s = size_fits_lem (contents rs) i (omega (arith, length_contents rs)) in
    let e = ap length (lent rs i (omega arith)) in
    (omega (arith, s), omega (arith, s, e))

pub overflow_add-at : goal.overflow_add-at
overflow_add-at c =
    let rs = c.args.parts.now in
    let i = c.loop-i.i in
    let s = size_fits_lem (contents rs) i (omega (arith, length_contents rs)) in
    let e = ap length (lent rs i (omega arith)) in
    omega (arith, s, e)

pub loop-i-preserved : goal.loop-i-preserved
loop-i-preserved c =
    let rs = c.args.parts.now in
    let xs = contents rs in
    let i = c.loop-i.i in
    let in-range : i < length xs = omega (arith, length_contents rs) in
    let e = ap length (lent rs i (omega arith)) in
    let w = whole_more xs i in-range in
    let at = c.loop-i.invariant.1 in
    let pair : c.pair.result ≡ le16 (4 * length rs + length (whole (take i xs))) ++ le16 (length (get_or xs i [])) = c.pair.ensures ∙ (λ k. le16 (at k) ++ le16 (e k)) in (
      omega arith,
      omega (arith, w, e),
      c.put.ensures ∙ (λ k. paste (c.loop-i.invariant.2 k) (4 * i) (pair k) (length (pair k))) ∙ pairs_more xs i in-range c.args.out.now (4 * length rs),
    )
