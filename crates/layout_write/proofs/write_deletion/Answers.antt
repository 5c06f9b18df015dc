use Rattle.std.proofs.Common.{◌++◌, ap, ◌∙◌, arith}
use Rattle.layout.specs.Page.{meaning}
use Rattle.layout_write.proofs.Round.{read_again}
use Rattle.layout_write.proofs.Writes.{both_written}
use Rattle.layout_write.proofs.write_deletion.Goals as goal

pub returns : goal.returns
returns c =
    let v = c.args.version in
    let x = c.clear.ensures in
    let y = c.put_tag.ensures in
    let w = both_written c.clear.new.bytes c.put_tag.new.tag c.args.page.now (omega arith) (omega arith) ∙ (λ i. x i ++ y i) in
    record {
      writes = w;
      reads = ap meaning w ∙ read_again.deletion v.sector.number v.birth.number v.sector.last v.birth.first v.birth.last;
    }
