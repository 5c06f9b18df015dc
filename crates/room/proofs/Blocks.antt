-- The block of a page.
use Rattle.std.proofs.Common.{◌≡◌, ℕ, zero, suc, ◌+◌, ◌-◌, ◌*◌, ◌/◌, ◌%◌, ◌<◌, ◌≤◌, Bool, true, false, cond, not, ◌&&◌, eqb, map, Some, None, MatchOption, Option, sym, refl, ap, ◌∙◌, inl, inr, mod-lt, suc-mul, div-lt_iff_lt-mul, div-add-mod', arith}
use Rattle.std.specs.List.{find, range_with_len}
use Rattle.std.proofs.lemmas.Bool.{both_ways, cases_eq, and_parts, eq-eqb, ne_eqb}
use Rattle.chip.specs.declared.PageNumber.{PageNumber}
use Rattle.tables.specs.declared.index.Index.{Index}
use Rattle.moving.specs.Moves.{Outside}
use Rattle.moving.proofs.Places.{blocks_apart}
use Rattle.room.specs.Choose.{page_free, Found, is_open, first_free}

module _ (per k b : ℕ) (pos : 0 < per) where
  pub split_in : k / per ≡ b → Outside (b * per) per k → ⊥
  split_in e o =
      let small : k % per < per = mod-lt k pos in
      let split : (k / per) * per + k % per ≡ k = div-add-mod' k per in
      let z : (k / per) * per ≡ b * per = ap (λ x. x * per) e in
      elim o [ inl a ↦ omega arith | inr a ↦ omega arith ]

  pub split_out : (k / per ≡ b → ⊥) → Outside (b * per) per k
  split_out ne =
      let small : k % per < per = mod-lt k pos in
      let split : (k / per) * per + k % per ≡ k = div-add-mod' k per in
      elim (blocks_apart per (k / per) b ne) [ inl a ↦ inl (omega arith) | inr a ↦ inr (omega arith) ]

-- Each page is at a place of a block.
pub record At (per blocks k : ℕ) : Type 0 where
  pub block : ℕ
  pub place : ℕ
  pub first : block < blocks
  pub small : place < per
  pub is : block * per + place ≡ k

pub page_at : (per blocks k : ℕ) → 0 < per → k < blocks * per → At per blocks k
page_at per blocks k pos h =
    record {
      block = k / per;
      place = k % per;
      first = (div-lt_iff_lt-mul {k = per} {x = k} {y = blocks} pos).1 h;
      small = mod-lt k pos;
      is = div-add-mod' k per;
    }

-- All blocks but one, and that one.
pub but_one : (blocks per : ℕ) → 0 < blocks → (blocks - 1) * per + per ≡ blocks * per
but_one blocks per h =
    let e : suc (blocks - 1) ≡ blocks = omega arith in
    sym (suc-mul (blocks - 1) per) ∙ ap (λ b. b * per) e

-- The first page that passes.
first_of : (q : PageNumber → Bool) (n from : ℕ) →
    MatchOption (find q (map (λ p. record { 0 = p }) (range_with_len from n))) ((k : ℕ) → from ≤ k → k < from + n → q (record { 0 = k }) ≡ false) (λ p. (p.0 < from + n) × (q p ≡ true))
first_of q zero from = λ k a b. absurd (omega arith)
first_of q (suc n) from = go (q (record { 0 = from })) refl (find q (map (λ p. record { 0 = p }) (range_with_len (from + 1) n))) (first_of q n (from + 1))
  where
    go : (t : Bool) → q (record { 0 = from }) ≡ t → (r : Option PageNumber) →
        MatchOption r ((k : ℕ) → from + 1 ≤ k → k < from + 1 + n → q (record { 0 = k }) ≡ false) (λ p. (p.0 < from + 1 + n) × (q p ≡ true)) →
        MatchOption (cond t (Some (record { 0 = from })) r) ((k : ℕ) → from ≤ k → k < from + suc n → q (record { 0 = k }) ≡ false) (λ p. (p.0 < from + suc n) × (q p ≡ true))
    go true e r m = (omega arith, e)
    go false e None m = λ k a b. elim (cases_eq k from) [ inl x ↦ ap (λ j. q (record { 0 = j })) x ∙ e | inr ne ↦ m k (omega arith) (omega arith) ]
    go false e (Some p) m = let l = m.0 in (omega arith, m.1)

cond_not : (a b : Bool) → (not a && b) ≡ false → a ≡ false → b ≡ false
cond_not a b e f = grind arith

not_true : (a : Bool) → not a ≡ true → a ≡ false
not_true a e = grind arith

pub found_first : (per : ℕ) (ix : Index) → 0 < per → Found ix per (first_free ix per)
found_first per ix pos = go (first_free ix per) (first_of (is_open ix per) ix.pages 0)
  where
    go : (r : Option PageNumber) → MatchOption r ((k : ℕ) → 0 ≤ k → k < 0 + ix.pages → is_open ix per (record { 0 = k }) ≡ false) (λ p. (p.0 < 0 + ix.pages) × (is_open ix per p ≡ true)) → Found ix per r
    go None none = λ k h o.
        cond_not (eqb (k / per) ix.spare.0) (page_free ix k) (none k (omega arith) (omega arith)) (ne_eqb (k / per) ix.spare.0 (λ e. split_in per k ix.spare.0 pos e o))
    go (Some p) m =
        let l = m.0 in
        let t = and_parts (not (eqb (p.0 / per) ix.spare.0)) (page_free ix p.0) m.1 in
        (omega arith, split_out per p.0 ix.spare.0 pos (λ e. both_ways (eqb (p.0 / per) ix.spare.0) (not_true (eqb (p.0 / per) ix.spare.0) t.0) (eq-eqb (p.0 / per) ix.spare.0 e)), t.1)
