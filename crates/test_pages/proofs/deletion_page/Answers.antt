use Rattle.std.proofs.Common.{Some, ap, ◌∙◌}
use Rattle.std.specs.Option.{option_map}
use Rattle.layout_write.specs.Written as written
use Rattle.test_pages.proofs.deletion_page.Goals as goal

pub returns : goal.returns
returns c = ap Some c.write_deletion.ensures.writes ∙ ap (option_map (λ v. written.deletion_page v.0 v.1)) c.in_ok-version.ensures
