use Rattle.std.proofs.Common.{◌≡◌, ◌*◌, length, replicate, Err, sym, ap, ◌∙◌, rules, arith, length-take}
use Rattle.std.specs.Result.{result_ok}
use Rattle.layout.specs.declared.pages.Tag.TheVariants as tag
use Rattle.refusals.specs.declared.types.Refusal.TheVariants as refusal
use Rattle.mounting.specs.Mounted.{verdict_in}
use Rattle.mounting.proofs.Store.{verdict_bad, verdict_good, verdict_none, scanned_some}
use Rattle.mounting.proofs.mount_index.Goals as goal

pub invariant_of-tags : goal.invariant_of-tags
invariant_of-tags g c = let few = c.if-blocks-per-gt-MOST_PAGES.false in record { few = simp length-take (omega arith) }

pub index_of-requires : goal.index_of-requires
index_of-requires g c =
    let chip = c.args.chip.now in
    let pages = g.C.Chip.pages chip in
    let eb = c.size-blocks.ensures in
    let all : length pages ≡ c.size-blocks.result * c.block_pages-per.result = g.C.Chip.shape.whole chip ∙ (λ i. sym eb i * sym c.block_pages-per.ensures i) in
    let few = c.if-blocks-per-gt-MOST_PAGES.false in
    record {
      scanned = scanned_some pages c.scan.new.table (replicate 2048 tag.Erased) c.in_ok-scan.field-0 c.in_ok-register.register _ (c.ok_or.ensures.ok_part ∙ ap result_ok c.in_ok-register.was) c.in_ok-scan.ensures.answer c.in_ok-scan.ensures.table (omega arith) (sym all);
      some = let two = c.if-blocks-lt2.false in omega arith;
    }

pub returns-in_err-scan-clause-verdict : goal.returns-in_err-scan-clause-verdict
returns-in_err-scan-clause-verdict g c =
    let bad = c.in_err-scan.field-0.0 in
    let e : c.from_residual.result ≡ Err (refusal.BadPage bad.page bad.cause) = search rules in
    ap verdict_in e ∙ verdict_bad _ _ (g.C.Chip.pages c.args.chip.now) _ _ c.size-blocks.ensures c.block_pages-per.ensures c.if-blocks-lt2.false c.if-blocks-per-gt-MOST_PAGES.false _ _ c.in_err-scan.ensures.answer

pub returns-in_err-register-clause-verdict : goal.returns-in_err-register-clause-verdict
returns-in_err-register-clause-verdict g c =
    let e : c.from_residual-in_err-register.result ≡ Err refusal.NotAStore = search rules in
    ap verdict_in e ∙ verdict_none _ _ (g.C.Chip.pages c.args.chip.now) _ _ c.size-blocks.ensures c.block_pages-per.ensures c.if-blocks-lt2.false c.if-blocks-per-gt-MOST_PAGES.false c.in_ok-scan.field-0 (c.ok_or.ensures.ok_part ∙ ap result_ok c.in_err-register.was) c.in_ok-scan.ensures.answer

pub returns : goal.returns
returns g c = record {
  verdict = verdict_good _ _ (g.C.Chip.pages c.args.chip.now) _ _ c.size-blocks.ensures c.block_pages-per.ensures c.if-blocks-lt2.false c.if-blocks-per-gt-MOST_PAGES.false _ c.in_ok-scan.ensures.answer _ c.index_of.ensures.verdict;
  tells = c.index_of.ensures.tells;
}
