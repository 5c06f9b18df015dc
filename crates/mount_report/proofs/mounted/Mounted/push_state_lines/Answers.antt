use Rattle.std.proofs.Common.{ℕ, List, Some, ◌++◌, string_bytes, refl, ap, ◌∙◌}
use Rattle.inspection.proofs.Joins.{joins_more, joins_all}
use Rattle.std.proofs.lemmas.Slice.{pushed}
use Rattle.readings.specs.Versions.{Reading}
use Rattle.store.specs.Views.{seen, reading_of}
use Rattle.mount_report.specs.Lines.{list_line}
use Rattle.mount_report.proofs.mounted.Mounted.push_state_lines.Goals as goal

abbrev piece : Reading → ℕ → List ℕ
piece r n = list_line r (Some (record { 0 = n }))

pub loop-number-preserved : goal.loop-number-preserved
loop-number-preserved g c =
    let r = reading_of (seen g.C.Chip c.args.self.now.store.now) in
    let text = pushed c.as_str.result.now refl c.in_ok-push_str.was c.push_str.ensures.bytes in
    let part = c.as_str.ensures.value ∙ c.in_ok-line.ensures in
    joins_more (piece r) (string_bytes c.args.text.now) c.args.numbers.now c.loop-number.number-index 0 c.loop-number-test.true c.loop-number.invariant (text ∙ ap (λ z. string_bytes c.loop-number.text ++ z) part)

pub returns : goal.returns
returns g c =
    let r = reading_of (seen g.C.Chip c.args.self.now.store.now) in
    joins_all (piece r) (string_bytes c.args.text.now) c.args.numbers.now c.loop-number.number-index c.loop-number-test.false c.loop-number.invariant
