-- No version born after the limit is left in the blocks that were looked at.
use Rattle.std.proofs.Common.{◌≡◌, ℕ, ◌+◌, ◌-◌, ◌*◌, ◌<◌, ◌≤◌, true, false, List, [], length, get_or, sym, refl, ap, ◌∙◌, inl, inr, add-mul, one-mul, arith}
use Rattle.std.proofs.lemmas.Bool.{both_ways, cases_Bool, cases_lt}
use Rattle.chip.specs.Pages.{Page}
use Rattle.limits.specs.Values.{held_of}
use Rattle.readings.specs.Sayings.{nothing, said}
use Rattle.tables.specs.declared.index.Index.{Index}
use Rattle.moving.specs.Sound.{Sound, page_stays}
use Rattle.moving.specs.Moves.{Answer, origin, Relocated}
use Rattle.moving.proofs.Places.{block_inside, in_or_out, is_in_lem, is_out, origin_out, origin_copied, origin_left}
use Rattle.moving.proofs.Says.{said_erased_page, stays_said, spare_says}
use Rattle.room.specs.Choose.{is_later, page_later}
use Rattle.room.proofs.Tells.{later_said, stays_not_later}

module _ (blocks per : ℕ) (pages : List Page) (ix : Index) (link last_birth : ℕ → ℕ) (limit : ℕ) (sound : Sound blocks per pages ix link last_birth) (b : ℕ) (first : b < blocks) where
  abbrev from : ℕ
  from = b * per

  abbrev to : ℕ
  to = ix.spare.0 * per

  inside : from + per ≤ length pages
  inside = block_inside per blocks b (length pages) sound.whole first

  spare_is : (i : ℕ) → i < per → said (get_or pages (to + i) []) ≡ nothing
  spare_is = spare_says blocks per pages ix link last_birth sound

  -- A block with such a version is not the spare one.
  pub not_spare : (i : ℕ) → i < per → page_later ix limit (from + i) ≡ true → b ≡ ix.spare.0 → ⊥
  not_spare i l t e =
      let q = inside in
      let f : from ≡ to = ap (λ x. x * per) e in
      both_ways (is_later limit (said (get_or pages (from + i) []))) (ap (λ x. is_later limit (said (get_or pages (x + i) []))) f ∙ ap (is_later limit) (spare_is i l))
      (sym (later_said blocks per pages ix link last_birth sound (from + i) (omega arith) limit) ∙ t)

  -- The block has none.
  pub none_here : ((i : ℕ) → i < per → page_later ix limit (from + i) ≡ false) → ((k : ℕ) → k < from → is_later limit (said (get_or pages k [])) ≡ false) →
      (k : ℕ) → k < (b + 1) * per → is_later limit (said (get_or pages k [])) ≡ false
  none_here here before k h =
      let q = inside in
      let e = add-mul b 1 per in
      let o = one-mul per in
      elim (cases_lt k from) [
        | inl l ↦ before k l
        | inr l ↦
            let f : from + (k - from) ≡ k = omega arith in
            sym (later_said blocks per pages ix link last_birth sound k (omega arith) limit) ∙ ap (page_later ix limit) (sym f) ∙ here (k - from) (omega arith)
      ]

  -- Nor when it was relocated.
  pub none_left : (r : Answer) (pages' : List Page) (ix' : Index) → Relocated blocks per pages ix link last_birth limit b r pages' ix' → ((k : ℕ) → k < from → is_later limit (said (get_or pages k [])) ≡ false) →
      (k : ℕ) → k < (b + 1) * per → is_later limit (said (get_or pages' k [])) ≡ false
  none_left r pages' ix' done before k h =
      let q = inside in
      let e = add-mul b 1 per in
      let one = one-mul per in
      let are = done.pages_are k (omega arith) in
      elim (in_or_out from per k) [
        | inl x ↦
            let l = x.1 in
            let y = x.2 in
            ap (λ z. is_later limit (said z)) (are ∙ rw (is_in_lem from per k (omega arith) (omega arith)) refl) ∙ ap (is_later limit) said_erased_page
        | inr o ↦
            let was : get_or pages' k [] ≡ get_or pages (origin (page_stays ix limit) from to per k) [] = are ∙ rw (is_out from per k o) refl in
            ap (λ z. is_later limit (said z)) was ∙ elim (in_or_out to per k) [
              | inr p ↦
                  ap (λ j. is_later limit (said (get_or pages j []))) (origin_out (page_stays ix limit) from to per k p)
                  ∙ before k (elim o [ inl a ↦ a | inr a ↦ absurd (omega arith) ])
              | inl x ↦ elim (cases_Bool (page_stays ix limit (from + x.0))) [
                | inl t ↦
                    let l = x.1 in
                    ap (λ j. is_later limit (said (get_or pages j []))) (ap (origin (page_stays ix limit) from to per) x.2 ∙ origin_copied (page_stays ix limit) from to per x.0 x.1 t)
                    ∙ stays_not_later (held_of ix.held) ix.newest limit link (said (get_or pages (from + x.0) [])) (sym (stays_said blocks per pages ix link last_birth sound limit (from + x.0) (omega arith)) ∙ t)
                | inr t ↦
                    ap (λ j. is_later limit (said (get_or pages j []))) (ap (origin (page_stays ix limit) from to per) x.2 ∙ origin_left (page_stays ix limit) from to per x.0 x.1 t)
                    ∙ ap (is_later limit) (spare_is x.0 x.1)
              ]
            ]
      ]

  -- A block with such a version is one of a chip with such a version.
  pub none_none : ((k : ℕ) → k < length pages → is_later limit (said (get_or pages k [])) ≡ false) → (i : ℕ) → i < per → page_later ix limit (from + i) ≡ true → ⊥
  none_none all i l t =
      let q = inside in
      both_ways (page_later ix limit (from + i)) (later_said blocks per pages ix link last_birth sound (from + i) (omega arith) limit ∙ all (from + i) (omega arith)) t
