-- The tag of a page, as `read_tag` reads it.
use Rattle.std.proofs.Common.{◌≡◌, ℕ, Bool, true, false, cond, ◌&&◌, List, length, get_or, take, drop, Some, None, sym, ap, ◌∙◌, arith}
use Rattle.std.proofs.lemmas.Slice.{between_to_end}
use Rattle.std.proofs.lemmas.Bool.{eq-eqb}
use Rattle.chip.specs.Pages.{is_erased}
use Rattle.layout.specs.Bytes.{all_zero, u16_at, u32_at}
use Rattle.layout.specs.Page.{go_together, tag_read, tag_at}

module _ (p : List ℕ) (lp : length p ≡ 528) (live : false ≡ is_erased p) (one : get_or p 513 0 ≡ 0) (z : Bool) (ez : z ≡ all_zero (take 8 (drop 520 p))) where
  rest : all_zero (drop 520 p) ≡ z
  rest = ap all_zero (sym (between_to_end p 520 528 (omega arith))) ∙ sym ez

  fields : tag_read p ≡ cond (z && go_together (get_or p 512 0) (u16_at p 514) (u32_at p 516)) (Some (tag_at p)) None
  fields = (λ i. cond (sym live i) (Some (0, 0, 0)) (cond (eq-eqb (get_or p 513 0) 0 one i && (rest i && go_together (get_or p 512 0) (u16_at p 514) (u32_at p 516))) (Some (tag_at p)) None))

  pub tag_unsound : z ≡ false → None ≡ tag_read p
  tag_unsound f = sym (fields ∙ ap (λ t. cond (t && go_together (get_or p 512 0) (u16_at p 514) (u32_at p 516)) (Some (tag_at p)) None) f)

  pub tag_fields : z ≡ true → (s b : ℕ) → s ≡ u16_at p 514 → b ≡ u32_at p 516 → cond (go_together (get_or p 512 0) s b) (Some (get_or p 512 0, s, b)) None ≡ tag_read p
  tag_fields t s b es eb =
      (λ i. cond (go_together (get_or p 512 0) (es i) (eb i)) (Some (get_or p 512 0, es i, eb i)) None)
      ∙ sym (fields ∙ ap (λ y. cond (y && go_together (get_or p 512 0) (u16_at p 514) (u32_at p 516)) (Some (tag_at p)) None) t)
