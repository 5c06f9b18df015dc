use Rattle.std.proofs.Common.{◌*◌, length, sym, ap, ◌∙◌}
use lib.Seq.{paste}
use Rattle.layout_write.specs.Written.{whole, contents}
use Rattle.layout_write.proofs.Writes.{register_written, length_contents}
use Rattle.layout_write.proofs.put_register.Goals as goal

pub returns : goal.returns
returns c =
    let rs = c.args.parts.now in
    let xs = contents rs in
    c.put_parts.ensures
    ∙ ap (λ o. paste o (4 * length rs) (whole xs) (length (whole xs))) c.put_pairs.ensures
    ∙ register_written c.clear.new.bytes xs (length rs) (sym (length_contents rs)) c.clear.ensures
