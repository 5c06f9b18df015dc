use Rattle.std.proofs.Common.{◌≡◌, ℕ, List, ap, ◌∙◌}
use Rattle.std.proofs.lemmas.Result.{IfOk-weaker}
use Rattle.std.specs.Option.{is_some}
use Rattle.chip.specs.Pages.{Page}
use Rattle.inspection.specs.Arguments.{name_of}
use Rattle.inspection.specs.Images.{left_over}
use Rattle.inspection.specs.Reports.{report_text_with}
use Rattle.mount_report.specs.Lines.{mount_text}
use Rattle.mount_report.proofs.reports.image_report.Goals as goal

-- The chip after the mount is as it was before.
same_report : (name : List ℕ) (per file_bytes left b b' : ℕ) (pages pages' : List Page) (lines lines' : List ℕ) → left ≡ left_over file_bytes b per → b ≡ b' → pages ≡ pages' → lines ≡ lines' →
    report_text_with name b per left pages lines ≡ report_text_with name b' per (left_over file_bytes b' per) pages' lines'
same_report name per file_bytes left b b' pages pages' lines lines' left_is b_is the_pages_are lines_are =
    ap (λ n. report_text_with name b per n pages lines) left_is
    ∙ ap (λ n. report_text_with name n per (left_over file_bytes n per) pages lines) b_is
    ∙ ap (λ ps. report_text_with name b' per (left_over file_bytes b' per) ps lines) the_pages_are
    ∙ ap (λ ls. report_text_with name b' per (left_over file_bytes b' per) pages' ls) lines_are

pub returns : goal.returns
returns g c =
    let m = g.C.Chip in
    let chip = c.args.chip in
    let made = c.new-store.ensures in
    let mounted = c.mount_lines-lines.ensures in
    let told = c.as_str.ensures.value ∙ c.in_ok-lines.ensures.text (ap is_some made.closed) ∙ ap (λ z. mount_text (m.blocks z) m.per (m.pages z)) made.chip in
    let same =
    same_report (name_of c.args.make) m.per c.args.file_bytes c.left_over-left.result (m.blocks c.unmount-chip.result) (m.blocks chip) (m.pages c.unmount-chip.result) (m.pages chip) c.as_str.result.now (mount_text (m.blocks chip) m.per (m.pages chip))
    c.left_over-left.ensures
    (ap m.blocks c.unmount-chip.ensures ∙ mounted.blocks ∙ ap m.blocks made.chip)
    (ap m.pages c.unmount-chip.ensures ∙ mounted.pages ∙ ap m.pages made.chip)
    told in
    IfOk-weaker c.report_with.result _ _ (λ text h. h ∙ same) c.report_with.ensures
