use Rattle.std.proofs.Common.{◌≡◌, ◌-◌, ◌*◌, [], ◌∷◌, ◌++◌, take, ap, ◌∙◌, arith}
use Rattle.std.proofs.lemmas.List.{length-take-le}
use Rattle.limits.specs.Values.{held_of, label_of}
use Rattle.layout.specs.Page.{meaning}
use Rattle.layout_write.specs.Written.{register_data, tag_bytes}
use Rattle.layout_write.proofs.Round.{read_again}
use Rattle.layout_write.proofs.Writes.{both_written}
use Rattle.layout_write.proofs.write_register.Goals as goal

pub returns : goal.returns
returns c =
    let v = c.args.register.now in
    let x = c.put_both.ensures in
    let y = c.put_tag.ensures in
    let n = 4 * v.held.len in
    let z : n - 0 ≡ n = omega arith in
    let h = ap (λ m. take m c.held_bytes-held.result) z ∙ c.held_bytes-held.ensures in
    let l = c.as_slice.ensures in
    let w =
    both_written c.put_both.new.out c.put_tag.new.tag c.args.page.now (omega arith) (omega arith)
    ∙ (λ i. x i ++ y i)
    ∙ (λ i. register_data (h i ∷ l i ∷ []) ++ tag_bytes 3 65535 v.birth.number) in
    let lh = length-take-le v.held.len v.held.items (omega arith) in
    let ll = length-take-le v.label.len v.label.items (omega arith) in
    record {
      writes = w;
      reads = ap meaning w ∙ read_again.register v.birth.number (held_of v.held) (label_of v.label) v.birth.first v.birth.last (omega arith) v.known (omega arith);
    }
