-- A page that is neither erased nor bad is what is written for its meaning.
use Rattle.std.proofs.Common.{◌≡◌, ℕ, zero, suc, ◌+◌, ◌-◌, ◌/◌, ◌%◌, ◌<◌, ◌≤◌, true, false, eqb, leb, List, [], ◌∷◌, ◌++◌, length, get_or, take, drop, replicate, Some, None, Option, sym, refl, ap, ◌∙◌, arith}
use Rattle.std.specs.List.{flat_map, AllByRecursion}
use Rattle.std.proofs.ByRecursion.{All-take, All-drop}
use Rattle.std.proofs.lemmas.List.{length-take-le, length-drop, length-append, append_assoc, drop_at}
use Rattle.std.proofs.lemmas.Bool.{and_parts, eqb-true, cond_both}
use Rattle.std.proofs.lemmas.Bool.Decides.{nat_tests}
use Rattle.chip.specs.Pages.{is_erased}
use Rattle.limits.specs.Numbers.{rising}
use Rattle.layout.specs.Bytes.{all_zero, u16_at, u32_at, words}
use Rattle.layout.specs.Parts.{register_kinds, end_of, part_at}
use Rattle.layout.specs.Page.{go_together, tag_at, tag_sound, tagged_meaning, register_with_end}
use Rattle.layout.proofs.RegisterRead.{bounds}
use Rattle.layout_write.specs.Written.{le32, pairs_from, whole, padded, register_data}
use Rattle.layout_write.specs.Laws.{Rewritten, WrittenAgain}
use Rattle.layout_write.proofs.Digits.{le32_again}
use Rattle.layout_write.proofs.Writes.{length_pairs}
use Rattle.layout_write.proofs.TagRound.{zeros_again, page_again}
use Rattle.layout_write.proofs.PartsRound.{parts_again}

byte_at : (xs : List ℕ) → AllByRecursion (λ x. x < 256) xs → (i : ℕ) → get_or xs i 0 < 256
byte_at [] by i = omega arith
byte_at (x ∷ xs) by zero = by.0
byte_at (x ∷ xs) by (suc i) = byte_at xs by.1 i

fours_again : (xs : List ℕ) → AllByRecursion (λ x. x < 256) xs → length xs % 4 ≡ 0 → flat_map le32 (words xs) ≡ xs
fours_again [] by h = refl
fours_again (a ∷ []) by h = absurd (omega arith)
fours_again (a ∷ b ∷ []) by h = absurd (omega arith)
fours_again (a ∷ b ∷ c ∷ []) by h = absurd (omega arith)
fours_again (a ∷ b ∷ c ∷ d ∷ xs) by h =
    let e = le32_again a b c d by.0 by.1.0 by.1.1.0 by.1.1.1.0 in
    let r = fours_again xs by.1.1.1.1 (omega arith) in
    (λ i. e i ++ r i)

-- the kinds that are left of a sound tag
register_tag : (k s b : ℕ) → go_together k s b ≡ true → eqb k 1 ≡ false → eqb k 2 ≡ false → (k ≡ 3) × (s ≡ 65535)
register_tag k s b g one two = (grind (arith, nat_tests), grind (arith, nat_tests))

-- as many elements as the front has, and more
take_front : (n : ℕ) (f r : List ℕ) → length f ≤ n → take n (f ++ r) ≡ f ++ take (n - length f) r
take_front n [] r h = let z : n ≡ n - 0 = omega arith in ap (λ m. take m r) z
take_front zero (x ∷ f) r h = absurd (omega arith)
take_front (suc n) (x ∷ f) r h = let z : n - length f ≡ suc n - suc (length f) = omega arith in ap (λ l. x ∷ l) (take_front n f r (omega arith) ∙ ap (λ m. f ++ take m r) z)

-- the data of a register: pairs a, parts w, and 00 after them
data_again : (p a w : List ℕ) (e : ℕ) → length p ≡ 528 → e ≤ 512 → p ≡ a ++ (w ++ drop e p) → length a + length w ≡ e → all_zero (drop e (take 512 p)) ≡ true → take 512 p ≡ padded 512 (a ++ w)
data_again p a w e lp he h l z =
    let lf : length (a ++ w) ≡ e = length-append a w ∙ l in
    let g = h ∙ sym (append_assoc a w (drop e p)) in
    let t : take 512 p ≡ (a ++ w) ++ take (512 - length (a ++ w)) (drop e p) = ap (take 512) g ∙ take_front 512 (a ++ w) (drop e p) (omega arith) in
    let r : drop e (take 512 p) ≡ take (512 - length (a ++ w)) (drop e p) = ap (drop e) t ∙ drop_at (a ++ w) _ e lf in
    let lr : length (take (512 - length (a ++ w)) (drop e p)) ≡ 512 - length (a ++ w) = length-take-le (512 - length (a ++ w)) (drop e p) (omega (arith, length-drop e p)) in
    let zs = zeros_again (take (512 - length (a ++ w)) (drop e p)) (ap all_zero (sym r) ∙ z) ∙ ap (λ n. replicate n 0) lr in
    t ∙ ap (λ x. (a ++ w) ++ x) zs

register_data_lem : (p : List ℕ) → AllByRecursion (λ x. x < 256) p → length p ≡ 528 → (e : ℕ) → end_of register_kinds p ≡ Some e → all_zero (drop e (take 512 p)) ≡ true → take 512 p ≡ register_data (flat_map le32 (words (part_at p 0)) ∷ part_at p 1 ∷ [])
register_data_lem p by lp e end z =
    let d = bounds p e end in
    let r = parts_again register_kinds p 0 8 e (byte_at p by) (omega arith) (omega (arith, d.end, d.few, d.short)) end in
    let ys = part_at p 0 ∷ part_at p 1 ∷ [] in
    let whole-page : p ≡ pairs_from 8 ys ++ (whole ys ++ drop e p) = r.pairs ∙ ap (λ l. pairs_from 8 ys ++ l) r.parts in
    let l : length (part_at p 0) ≡ u16_at p 2 = length-take-le (u16_at p 2) (drop (u16_at p 0) p) (omega (arith, d.start, d.few, length-drop (u16_at p 0) p)) in
    let four : length (part_at p 0) % 4 ≡ 0 = ap (λ n. n % 4) l ∙ eqb-true (u16_at p 2 % 4) 0 (and_parts (eqb (u16_at p 2 % 4) 0) (leb (u16_at p 2 / 4) 8) d.held).0 in
    let again = fours_again (part_at p 0) (All-take _ (u16_at p 2) _ (All-drop _ (u16_at p 0) p by)) four in
    data_again p (pairs_from 8 ys) (whole ys) e lp (omega (arith, d.end, d.few, d.short)) whole-page (ap (λ n. n + length (whole ys)) (length_pairs 8 ys) ∙ r.end) z
    ∙ ap (λ h. register_data (h ∷ part_at p 1 ∷ [])) (sym again)

module _ (p : List ℕ) (lp : length p ≡ 528) (by : AllByRecursion (λ x. x < 256) p) (sound : tag_sound p ≡ true) where
  register_again : get_or p 512 0 ≡ 3 → u16_at p 514 ≡ 65535 → (o : Option ℕ) → end_of register_kinds p ≡ o → Rewritten p (register_with_end o (u32_at p 516) p)
  register_again k s None end = tt
  register_again k s (Some e) end =
      cond_both (rising 0 (u32_at p 516) (words (part_at p 0))) _ _ (Rewritten p)
      (λ _. cond_both (all_zero (drop e (take 512 p))) _ _ (Rewritten p) (λ z. page_again p (byte_at p by) lp sound 3 65535 _ k s (register_data_lem p by lp e end z)) (λ _. tt))
      (λ _. tt)

  tagged_again : Rewritten p (tagged_meaning (Some (tag_at p)) p)
  tagged_again =
      let k = get_or p 512 0 in
      let g = (and_parts (all_zero (drop 520 p)) (go_together k (u16_at p 514) (u32_at p 516)) (and_parts (eqb (get_or p 513 0) 0) _ sound).1).1 in
      cond_both (eqb k 0) _ _ (Rewritten p) (λ _. tt)
      (λ _. cond_both (eqb k 1) _ _ (Rewritten p) (λ one. page_again p (byte_at p by) lp sound 1 (u16_at p 514) (take 512 p) (eqb-true k 1 one) refl refl)
      (λ one. cond_both (eqb k 2) _ _ (Rewritten p)
      (λ two. cond_both (all_zero (take 512 p)) _ _ (Rewritten p)
      (λ z. page_again p (byte_at p by) lp sound 2 (u16_at p 514) (replicate 512 0) (eqb-true k 2 two) refl (zeros_again (take 512 p) z ∙ ap (λ n. replicate n 0) (length-take-le 512 p (omega arith))))
      (λ _. tt))
      (λ two. let t = register_tag k (u16_at p 514) (u32_at p 516) g one two in register_again t.0 t.1 (end_of register_kinds p) refl)))

pub written_again : WrittenAgain
written_again p lp by =
    let Goal : Option (ℕ × ℕ × ℕ) → Type 0 = λ o. Rewritten p (tagged_meaning o p) in
    cond_both (is_erased p) _ _ Goal (λ _. tt) (λ _. cond_both (tag_sound p) _ _ Goal (λ sound. tagged_again p lp by sound) (λ _. tt))
