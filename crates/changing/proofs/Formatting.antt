-- Erasing all blocks, and the first register.
use Rattle.std.proofs.Common.{◌≡◌, ℕ, ◌+◌, ◌-◌, ◌*◌, ◌<◌, ◌≤◌, true, List, [], length, get_or, set, refl, ap, ◌∙◌, inl, inr, add-mul, arith, length-set}
use Rattle.std.proofs.lemmas.List.{get_or-set_same, get_or-set_other, length-take-le}
use Rattle.std.proofs.lemmas.Bool.{cases_lt}
use Rattle.chip.specs.Pages.{Page, is_erased, pages_erased}
use Rattle.limits.specs.declared.types.Bounded.{Bounded}
use Rattle.limits.specs.declared.types.Register as limits
use Rattle.limits.specs.Values.{held_of, label_of}
use Rattle.layout_write.specs.Written.{register_page}
use Rattle.readings.specs.Sayings.{register, said, sayings}
use Rattle.readings.specs.Reading.{reading}
use Rattle.readings.specs.Changes.{fresh}
use Rattle.tables.specs.declared.index.Index.{Index}
use Rattle.moving.proofs.Erasures.{erased_in, erased_out}
use Rattle.moving.proofs.Says.{erased_page_lem}
use Rattle.noting.specs.Fresh.{first_register, Formatted, FreshlyRead}
use Rattle.noting.proofs.Written.{written_says}
use Rattle.keeping.specs.Opened.{Opened}

-- One block more is erased.
pub erased_more : (per blocks : ℕ) (pages : List Page) (b : ℕ) → length pages ≡ blocks * per → b < blocks → ((k : ℕ) → k < b * per → is_erased (get_or pages k []) ≡ true) →
    (k : ℕ) → k < b * per + per → is_erased (get_or (pages_erased per blocks pages b) k []) ≡ true
erased_more per blocks pages b whole h before k l = elim (cases_lt k (b * per)) [
  | inl a ↦ ap is_erased (erased_out per blocks pages b whole h k (inl a)) ∙ before k a
  | inr a ↦
      let i = k - b * per in
      let e : k ≡ b * per + i = omega arith in
      ap (λ j. is_erased (get_or (pages_erased per blocks pages b) j [])) e ∙ ap is_erased (erased_in per blocks pages b whole h i (omega arith)) ∙ erased_page_lem
]

-- The first page has the first register, and the others are erased.
pub formatted : (blocks per : ℕ) (pages : List Page) (image : Page) (label : List ℕ) → 2 ≤ blocks → 2 ≤ per → blocks * per ≤ 2048 → length pages ≡ blocks * per → 0 < length pages →
    ((k : ℕ) → k < length pages → is_erased (get_or pages k []) ≡ true) → said image ≡ register (first_register label) →
    Formatted blocks per (set pages 0 image) 0 1 label
formatted blocks per pages image label two least small whole some erased says =
    let l = length-set pages 0 image in
    record {
      two = two;
      whole = l ∙ whole;
      few = omega arith;
      inside = omega arith;
      first = ap said (get_or-set_same pages 0 image [] some) ∙ says;
      erased = λ j h n. ap is_erased (get_or-set_other pages 0 j image [] n) ∙ erased j (omega arith);
      spare_block = omega arith;
      outside = inl (omega arith);
    }

pub fresh_opened : (blocks per : ℕ) (pages : List Page) (label : List ℕ) (ix : Index) → length pages ≡ blocks * per → FreshlyRead blocks per pages label ix →
    Opened blocks per pages ix × (reading (sayings pages) ≡ fresh label)
fresh_opened blocks per pages label ix whole f = (record { accepted = f.accepted; whole = whole; tells = f.consistent.tells }, f.reads)

pub some_page : (blocks per n : ℕ) → 2 ≤ blocks → 2 ≤ per → n ≡ blocks * per → 0 < n
some_page blocks per n two least e =
    let d : blocks ≡ 2 + (blocks - 2) = omega arith in
    let f = e ∙ ap (λ b. b * per) d ∙ add-mul 2 (blocks - 2) per in
    omega arith

pub first_says : (r : limits.Register) (label : Bounded ℕ 32) (image : Page) → r.birth.number ≡ 1 → held_of r.held ≡ [] → r.label ≡ label →
    image ≡ register_page r.birth.number (held_of r.held) (label_of r.label) → said image ≡ register (first_register (label_of label))
first_says r label image b h l e =
    let short = length-take-le label.len label.items (omega (arith, label.room, label.few)) in
    ap said (e ∙ (λ i. register_page (b i) (h i) (label_of (l i))))
    ∙ written_says.register_page_means 1 [] (label_of label) (omega arith) (omega arith) (omega arith) refl (omega (arith, short, label.few))
