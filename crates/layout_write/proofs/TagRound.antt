-- A tag that is written is read again, and one that is read is written again.
use Rattle.std.proofs.Common.{◌≡◌, ℕ, ◌+◌, ◌-◌, ◌*◌, ◌/◌, ◌%◌, ◌<◌, ◌≤◌, true, false, cond, ◌&&◌, eqb, List, [], ◌∷◌, ◌++◌, length, get_or, take, drop, replicate, Some, None, sym, refl, ap, ◌∙◌, arith, lit≤}
use Rattle.std.proofs.lemmas.List.{get_or-append_right, drop_at, drop-drop, take_at, take-append-drop, length-drop}
use Rattle.std.proofs.lemmas.Bool.{and_right, and_parts, eqb-true}
use Rattle.chip.specs.Pages.{is_erased}
use Rattle.layout.specs.Bytes.{all_zero, u16_at, u32_at}
use Rattle.layout.specs.Page.{go_together, tag_sound, tag_read}
use Rattle.layout.proofs.Words.{drop_four}
use Rattle.layout_write.specs.Written.{le16, le32, tag_bytes}
use Rattle.layout_write.proofs.Digits.{le16_read, le32_read, le16_again, le32_again}

erased_append : (xs ys : List ℕ) → is_erased (xs ++ ys) ≡ (is_erased xs && is_erased ys)
erased_append [] ys = refl
erased_append (x ∷ xs) ys =
    elim (eqb x 255) as (λ t. (t && is_erased (xs ++ ys)) ≡ ((t && is_erased xs) && is_erased ys)) [ true ↦ erased_append xs ys | false ↦ refl ]

-- a page of the data d and a tag
module _ (d : List ℕ) (k s b : ℕ) (ld : length d ≡ 512) where
  at_tag : (i : ℕ) → 512 ≤ i → get_or (d ++ tag_bytes k s b) i 0 ≡ get_or (tag_bytes k s b) (i - 512) 0
  at_tag i h = get_or-append_right d (tag_bytes k s b) 512 i 0 ld h

  sector_read : s < 65536 → u16_at (d ++ tag_bytes k s b) 514 ≡ s
  sector_read h =
      let a : get_or (d ++ tag_bytes k s b) 514 0 ≡ s % 256 = at_tag 514 (lit≤ tt) in
      let e : get_or (d ++ tag_bytes k s b) 515 0 ≡ s / 256 % 256 = at_tag 515 (lit≤ tt) in
      (λ i. a i + e i * 256) ∙ le16_read s h

  birth_read : b < 4294967296 → u32_at (d ++ tag_bytes k s b) 516 ≡ b
  birth_read h =
      let a0 : get_or (d ++ tag_bytes k s b) 516 0 ≡ b % 256 = at_tag 516 (lit≤ tt) in
      let a1 : get_or (d ++ tag_bytes k s b) 517 0 ≡ b / 256 % 256 = at_tag 517 (lit≤ tt) in
      let a2 : get_or (d ++ tag_bytes k s b) 518 0 ≡ b / 65536 % 256 = at_tag 518 (lit≤ tt) in
      let a3 : get_or (d ++ tag_bytes k s b) 519 0 ≡ b / 16777216 % 256 = at_tag 519 (lit≤ tt) in
      (λ i. a0 i + a1 i * 256 + a2 i * 65536 + a3 i * 16777216) ∙ le32_read b h

  rest_zero : all_zero (drop 520 (d ++ tag_bytes k s b)) ≡ true
  rest_zero = ap all_zero (sym (drop-drop 8 512 (d ++ tag_bytes k s b)) ∙ ap (drop 8) (drop_at d (tag_bytes k s b) 512 ld))

  -- a kind other than FF
  live : eqb k 255 ≡ false → is_erased (d ++ tag_bytes k s b) ≡ false
  live n = erased_append d (tag_bytes k s b) ∙ and_right (is_erased d) _ (ap (λ t. t && is_erased (0 ∷ (le16 s ++ (le32 b ++ (0 ∷ 0 ∷ 0 ∷ 0 ∷ 0 ∷ 0 ∷ 0 ∷ 0 ∷ []))))) n)

  pub page_data : take 512 (d ++ tag_bytes k s b) ≡ d
  page_data = take_at d (tag_bytes k s b) 512 ld

  pub tag_read_lem : eqb k 255 ≡ false → s < 65536 → b < 4294967296 → go_together k s b ≡ true → tag_read (d ++ tag_bytes k s b) ≡ Some (k, s, b)
  tag_read_lem n hs hb g =
      let e0 : get_or (d ++ tag_bytes k s b) 512 0 ≡ k = at_tag 512 (lit≤ tt) in
      let e1 : get_or (d ++ tag_bytes k s b) 513 0 ≡ 0 = at_tag 513 (lit≤ tt) in
      let es = sector_read hs in
      let eb = birth_read hb in
      (λ i. cond (live n i) (Some (0, 0, 0)) (cond (eqb (e1 i) 0 && (rest_zero i && go_together (e0 i) (es i) (eb i))) (Some (e0 i, es i, eb i)) None))
      ∙ ap (λ t. cond t (Some (k, s, b)) None) g

pub zeros_again : (xs : List ℕ) → all_zero xs ≡ true → xs ≡ replicate (length xs) 0
zeros_again [] h = refl
zeros_again (x ∷ xs) h =
    let a = and_parts (eqb x 0) (all_zero xs) h in
    let e = eqb-true x 0 a.0 in
    (λ i. e i ∷ zeros_again xs a.1 i)

module _ (p : List ℕ) (by : (i : ℕ) → get_or p i 0 < 256) (lp : length p ≡ 528) (sound : tag_sound p ≡ true) where
  tag_again : drop 512 p ≡ tag_bytes (get_or p 512 0) (u16_at p 514) (u32_at p 516)
  tag_again =
      let a = and_parts (eqb (get_or p 513 0) 0) _ sound in
      let z = eqb-true (get_or p 513 0) 0 a.0 in
      let b = and_parts (all_zero (drop 520 p)) (go_together (get_or p 512 0) (u16_at p 514) (u32_at p 516)) a.1 in
      let l : length (drop 520 p) ≡ 8 = omega (arith, length-drop 520 p) in
      let r = zeros_again (drop 520 p) b.0 ∙ ap (λ n. replicate n 0) l in
      let s = le16_again (get_or p 514 0) (get_or p 515 0) (by 514) (by 515) in
      let t = le32_again (get_or p 516 0) (get_or p 517 0) (get_or p 518 0) (get_or p 519 0) (by 516) (by 517) (by 518) (by 519) in
      drop_four p 512 (omega arith)
      ∙ (λ i. get_or p 512 0 ∷ z i ∷ get_or p 514 0 ∷ get_or p 515 0 ∷ drop_four p 516 (omega arith) i)
      ∙ (λ i. get_or p 512 0 ∷ 0 ∷ (sym s i ++ (sym t i ++ r i)))

  pub page_again : (k s : ℕ) (d : List ℕ) → get_or p 512 0 ≡ k → u16_at p 514 ≡ s → take 512 p ≡ d → p ≡ d ++ tag_bytes k s (u32_at p 516)
  page_again k s d ek es ed =
      sym (take-append-drop 512 p) ∙ ap (λ r. take 512 p ++ r) tag_again ∙ (λ i. ed i ++ tag_bytes (ek i) (es i) (u32_at p 516))
