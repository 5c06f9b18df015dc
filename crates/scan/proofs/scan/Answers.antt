use Rattle.std.proofs.Common.{◌+◌, ◌*◌, ◌<◌, map, length, drop, None, Err, sym, ap, ◌∙◌, arith}
use Rattle.std.specs.Option.{option_map}
use Rattle.std.proofs.lemmas.List.{map-set, length-map}
use Rattle.std.proofs.lemmas.Result.{err_from_is_err_and}
use Rattle.std.proofs.lemmas.Bool.{cases_lt}
use Rattle.limits.specs.Values.{register_values}
use Rattle.layout.specs.Page.{tag_of, cause_number}
use Rattle.scan.specs.Scan.{unless_bad, youngest}
use Rattle.scan.proofs.Turns.{table_from, low_bad, low_good, young_more, table_bad, table_good, table_past}
use Rattle.scan.proofs.scan.Goals as goal
use Rattle.scan.proofs.scan.Goals.{then-k-table, else-k-table}

pub returns-in_err-page : goal.returns-in_err-page
returns-in_err-page g c =
    let ps = g.C.Chip.pages c.args.chip.now in
    let ts = map tag_of c.loop-k.table in
    let k = c.loop-k.k in
    let b = c.in_err-page.field-0.0 in
    let all = (λ i. c.size.ensures i * c.block_pages.ensures i) ∙ sym (g.C.Chip.shape.whole c.args.chip.now) in
    let in-range : k < length ps = omega arith in
    let here = c.in_err-page.ensures in
    let p = err_from_is_err_and c.from_residual.result c.from_residual.ensures.1 in
    record {
      answer = rw (p.1, p.2) ((λ i. Err (here.0 i, cause_number b.cause)) ∙ ap (λ o. unless_bad o (youngest None ps)) (sym (low_bad ps k in-range (cause_number b.cause) here.1) ∙ c.loop-k.invariant.0));
      table = sym (table_bad ps k in-range ts (cause_number b.cause) here.1 (cases_lt k (length ts))) ∙ c.loop-k.invariant.2;
    }

pub loop-k-preserved : goal.loop-k-preserved
loop-k-preserved g c =
    let ps = g.C.Chip.pages c.args.chip.now in
    let ts = map tag_of c.loop-k.table in
    let k = c.loop-k.k in
    let x = c.in_ok-page.page in
    let all = (λ i. c.size.ensures i * c.block_pages.ensures i) ∙ sym (g.C.Chip.shape.whole c.args.chip.now) in
    let in-range : k < length ps = omega arith in
    let here = c.in_ok-page.ensures in
    let long = length-map c.loop-k.table tag_of in (
      low_good ps k in-range x here ∙ c.loop-k.invariant.0,
      ap (λ o. youngest o (drop (k + 1) ps)) c.younger-best.ensures ∙ young_more ps k in-range (option_map register_values c.loop-k.best) _ here ∙ c.loop-k.invariant.1,
      elim c.if-k-table.branch [
        | then-k-table w ↦ ap (λ t. table_from ps (k + 1) (map tag_of t)) w.table-is ∙ ap (table_from ps (k + 1)) (map-set tag_of c.loop-k.table k _) ∙ table_good ps k in-range ts x _ here w.tag.ensures (omega arith) ∙ c.loop-k.invariant.2
        | else-k-table w ↦ ap (λ t. table_from ps (k + 1) (map tag_of t)) w.table-is ∙ table_past ps k in-range ts (omega arith) ∙ c.loop-k.invariant.2
      ],
    )
