use Rattle.std.proofs.Common.{◌∙◌}
use Rattle.layout.proofs.Tags.{tag_unsound, tag_fields}
use Rattle.layout.proofs.read_tag.Goals as goal

pub returns-then-not-all_zero : goal.returns-then-not-all_zero
returns-then-not-all_zero c =
    tag_unsound c.args.page.now c.told-page c.if-is_erased.ensures c.if-page-ne0.false _ c.all_zero.ensures c.if-not-all_zero.true

pub returns : goal.returns
returns c =
    c.tag_with.ensures
    ∙ tag_fields c.args.page.now c.told-page c.if-is_erased.ensures c.if-page-ne0.false _ c.all_zero.ensures c.if-not-all_zero.false _ _ c.u16_at.ensures c.u32_at.ensures
