use Rattle.std.proofs.Common.{◌++◌, length, ap, ◌∙◌, arith}
use Rattle.layout.specs.Page.{meaning}
use Rattle.layout_write.proofs.Round.{read_again}
use Rattle.layout_write.proofs.Writes.{both_written}
use Rattle.layout_write.proofs.write_data.Goals as goal

pub returns : goal.returns
returns c =
    let v = c.args.version in
    let x = c.copy_from_slice.ensures.after in
    let y = c.put_tag.ensures in
    let w = both_written c.copy_from_slice.new.self c.put_tag.new.tag c.args.page.now (omega (arith, ap length x)) (omega arith) ∙ (λ i. x i ++ y i) in
    record {
      writes = w;
      reads = ap meaning w ∙ read_again.data_page_means v.sector.number v.birth.number c.args.bytes.now v.sector.last v.birth.first v.birth.last (omega arith);
    }
