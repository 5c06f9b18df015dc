use Rattle.std.proofs.Common.{[], sym, ◌∙◌}
use Rattle.std.proofs.lemmas.List.{get_or-map}
use Rattle.test_chips.specs.Rows.{row_bytes}
use Rattle.test_chips.proofs.tiny.Tiny.bytes_at.Goals as goal

pub returns : goal.returns
returns c =
    c.bytes.ensures ∙ sym (get_or-map row_bytes c.args.self.now.rows.now c.args.row c.index-self-row.result [] c.requires)
