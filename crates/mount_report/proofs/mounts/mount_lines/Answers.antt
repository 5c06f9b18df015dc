use Rattle.std.proofs.Common.{◌≡◌, string_bytes, refl, ap, ◌∙◌}
use Rattle.std.proofs.lemmas.Result.{IfOk-weaker}
use Rattle.store.specs.Views.{View, seen}
use Rattle.mount_report.specs.Lines.{mount_text}
use Rattle.mount_report.proofs.Granted.{some_number}
use Rattle.mount_report.proofs.Verdicts.{refused_text, opened_clock, opened_text_lem}
use Rattle.mount_report.proofs.mounts.mount_lines.Goals as goal

pub text-requires : goal.text-requires
text-requires g c = opened_clock (seen g.C.Chip c.args.store.now) (seen g.C.Chip c.mount.new.self) c.in-Ok.clock c.in-Ok.ensures.does

pub returns-in-Ok : goal.returns-in-Ok
returns-in-Ok g c =
    let v = seen g.C.Chip c.args.store.now in
    let w = seen g.C.Chip c.mount.new.self in
    let mounts = c.in-Ok.ensures.does in
    let same = (mounts.granted refl).same_chip in
    record {
      kept = c.mount.ensures.kept;
      blocks = same.same_size.blocks;
      pages = same.pages;
      text = λ _. IfOk-weaker c.text.result _ (λ text. string_bytes text ≡ mount_text v.blocks v.per v.pages) (λ _ e. e ∙ opened_text_lem v w c.in-Ok.clock mounts) c.text.ensures;
    }

pub returns-in-Err : goal.returns-in-Err
returns-in-Err g c =
    let v = seen g.C.Chip c.args.store.now in
    let w = seen g.C.Chip c.mount.new.self in
    let mounts = c.in-Err.ensures.does in
    let same = mounts.refusal (some_number c.in-Err.refusal) in
    record {
      kept = c.mount.ensures.kept;
      blocks = ap (λ (z : View). z.blocks) same;
      pages = ap (λ (z : View). z.pages) same;
      text = λ closed. IfOk-weaker c.refusal_line.result _ (λ text. string_bytes text ≡ mount_text v.blocks v.per v.pages) (λ _ e. e ∙ refused_text v w c.in-Err.refusal mounts closed) c.refusal_line.ensures;
    }
