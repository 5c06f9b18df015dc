use Rattle.std.proofs.Common.{◌≡◌, ℕ, List, [], ◌∷◌, ◌++◌, reverse, length, get_or, None, refl, ap, ◌∙◌}
use Rattle.std.proofs.lemmas.Slice.{pushed}
use Rattle.readings.specs.Versions.{Reading}
use Rattle.rules.specs.Told.{count_value}
use Rattle.rules.specs.declared.types.Count.{Count}
use Rattle.store.specs.Views.{seen, reading_of, capacity_of}
use Rattle.mount_report.specs.Lines.{list_line, state_lines, granted_line, opened_text}
use Rattle.mount_report.proofs.Buffers.{each_held}
use Rattle.mount_report.proofs.mounted.Mounted.text.Goals as goal

module _ (cap : ℕ) (r : Reading) {held : List ℕ} (the_held_is : held ≡ reverse r.held) where
  first_line : {clock : ℕ} {label : List ℕ} (counts : Count) {line : List ℕ} → line ≡ granted_line clock held label counts.needed counts.capacity → clock ≡ r.clock → label ≡ r.label → count_value counts ≡ length r.versions ∷ cap ∷ [] →
      line ≡ granted_line r.clock (reverse r.held) r.label (length r.versions) cap
  first_line {clock} {label} counts is the_clock_is label_is counts_are =
      is ∙ ap (λ z. granted_line z held label counts.needed counts.capacity) the_clock_is
      ∙ ap (λ z. granted_line r.clock z label counts.needed counts.capacity) the_held_is
      ∙ ap (λ z. granted_line r.clock (reverse r.held) z counts.needed counts.capacity) label_is
      ∙ ap (λ z. granted_line r.clock (reverse r.held) r.label (get_or z 0 0) (get_or z 1 0)) counts_are

  all_lines : {first list two all : List ℕ} → first ≡ granted_line r.clock (reverse r.held) r.label (length r.versions) cap → list ≡ list_line r None → two ≡ first ++ list → all ≡ two ++ state_lines r held → all ≡ opened_text cap r
  all_lines {first} {list} {two} first_is list_is two_is all_is =
      all_is ∙ ap (λ z. two ++ state_lines r z) the_held_is ∙ ap (λ z. z ++ state_lines r (reverse r.held)) (two_is ∙ ap (λ z. first ++ z) list_is ∙ ap (λ z. z ++ list_line r None) first_is)

pub push_state_lines-requires : goal.push_state_lines-requires
push_state_lines-requires g c =
    each_held _ c.as_slice-3.result.now (c.as_slice-3.ensures.value ∙ c.in_ok-held.ensures)

pub returns : goal.returns
returns g c =
    let v = seen g.C.Chip c.args.self.now.store.now in
    let r = reading_of v in
    let held = c.in_ok-held.ensures in
    let label = c.as_slice-2.ensures.value ∙ c.in_ok-label.ensures in
    let first = first_line (capacity_of v) r (c.as_slice.ensures.value ∙ held) c.count-count.result c.in_ok-text.ensures c.requires label c.count-count.ensures in
    let list = c.as_str.ensures.value ∙ c.in_ok-present.ensures in
    let two = pushed c.as_str.result.now refl c.in_ok-push_str.was c.push_str.ensures.bytes in
    all_lines (capacity_of v) r (c.as_slice-3.ensures.value ∙ held) first list two c.in_ok-push_state_lines.ensures
