-- A block whose pages say nothing is erased.
use Rattle.std.proofs.Common.{◌≡◌, ℕ, zero, suc, ◌+◌, ◌*◌, ◌<◌, Bool, true, false, cond, ◌&&◌, eqb, List, [], ◌∷◌, length, get_or, take, drop, Some, None, Option, sym, refl, ap, ◌∙◌, arith, length-drop, length-take}
use Rattle.std.proofs.lemmas.List.{length-map, get_or-take, get_or-drop}
use Rattle.std.proofs.lemmas.Bool.{and_parts, both_ways}
use Rattle.std.proofs.lemmas.Bool.Decides.{nat_tests}
use Rattle.chip.specs.Pages.{Page, is_erased}
use Rattle.layout.specs.Bytes.{all_zero, u16_at, u32_at, words}
use Rattle.layout.specs.Parts.{register_kinds, end_of, part_at}
use Rattle.layout.specs.Page.{Meaning, Erased, Data, Deletion, Bad, tag_at, go_together, tag_sound, register_with_end, register_meaning, tagged_meaning, meaning}
use Rattle.layout.specs.declared.pages.Tag.{Tag}
use Rattle.limits.specs.Numbers.{rising}
use Rattle.readings.specs.Sayings.{Saying, nothing, heard, said, sayings}
use Rattle.readings.specs.Mount.{is_nothing, all_nothing}
use Rattle.mounting.specs.Tagged.{tag_saying, tag_sayings, Tagged}
use Rattle.mounting.specs.Blocks.{ErasedAt}
use Rattle.mounting.proofs.Bare.{is_nothing_bare}
use Rattle.mounting.proofs.BlockTurns.{block_fits}
use Rattle.mounting.proofs.Told.{many, tag_says}

abbrev Speaks : Page → Meaning → Type 0
Speaks p m = is_nothing (heard m p) ≡ false

either : (p : Page) (b : Bool) (m n : Meaning) → Speaks p m → Speaks p n → Speaks p (cond b m n)
either p true m n e f = e
either p false m n e f = f

register_speaks : (p : Page) (o : Option ℕ) (b : ℕ) → Speaks p (register_with_end o b p)
register_speaks p None b = refl
register_speaks p (Some end) b = either p (rising 0 b (words (part_at p 0))) _ _ (either p (all_zero (drop end (take 512 p))) _ _ refl refl) refl

kind_not_0 : (k s b : ℕ) → go_together k s b ≡ true → eqb k 0 ≡ false
kind_not_0 k s b e = grind (arith, nat_tests)

tag_speaks : (p : Page) (t : ℕ × ℕ × ℕ) → eqb t.0 0 ≡ false → Speaks p (tagged_meaning (Some t) p)
tag_speaks p t e =
    let data_page_means = cond (eqb t.0 1) (Data t.1 t.2) (cond (eqb t.0 2) (cond (all_zero (take 512 p)) (Deletion t.1 t.2) (Bad 31)) (register_meaning t.2 p)) in
    ap (λ b. is_nothing (heard (cond b Erased data_page_means) p)) e
    ∙ either p (eqb t.0 1) _ _ refl (either p (eqb t.0 2) _ _ (either p (all_zero (take 512 p)) _ _ refl refl) (register_speaks p (end_of register_kinds p) t.2))

programmed_speaks : (p : Page) → is_erased p ≡ false → Speaks p (meaning p)
programmed_speaks p e = ap (λ b. is_nothing (heard (tagged_meaning (cond b (Some (0, 0, 0)) (cond (tag_sound p) (Some (tag_at p)) None)) p) p)) e ∙ go (tag_sound p) refl
  where
    go : (b : Bool) → tag_sound p ≡ b → is_nothing (heard (tagged_meaning (cond b (Some (tag_at p)) None) p) p) ≡ false
    go true f =
        let a = and_parts (eqb (get_or p 513 0) 0) (all_zero (drop 520 p) && go_together (get_or p 512 0) (u16_at p 514) (u32_at p 516)) f in
        let c = and_parts (all_zero (drop 520 p)) (go_together (get_or p 512 0) (u16_at p 514) (u32_at p 516)) a.1 in
        tag_speaks p (tag_at p) (kind_not_0 (get_or p 512 0) (u16_at p 514) (u32_at p 516) c.1)
    go false f = refl

silent_erased : (p : Page) → is_nothing (said p) ≡ true → is_erased p ≡ true
unfolding said
silent_erased p e = go (is_erased p) refl
  where
    go : (b : Bool) → is_erased p ≡ b → b ≡ true
    go true f = refl
    go false f = absurd (both_ways (is_nothing (heard (meaning p) p)) (programmed_speaks p f) e)

silent_at : (xs : List Saying) → all_nothing xs ≡ true → (k : ℕ) → k < length xs → is_nothing (get_or xs k nothing) ≡ true
unfolding all_nothing
silent_at [] e k h = refl
silent_at (x ∷ xs) e zero h = (and_parts (is_nothing x) (all_nothing xs) e).0
silent_at (x ∷ xs) e (suc k) h = silent_at xs (and_parts (is_nothing x) (all_nothing xs) e).1 k (omega arith)

pub spare_erased : (per blocks : ℕ) (pages : List Page) (ts : List Tag) → Tagged (sayings pages) ts → length pages ≡ blocks * per →
    (b : ℕ) → ErasedAt per blocks (tag_sayings ts) b → (k : ℕ) → k < per → is_erased (get_or pages (b * per + k) []) ≡ true
spare_erased per blocks pages ts tagged whole b at k h =
    let xs = tag_sayings ts in
    let fits = block_fits per blocks b at.stands (length pages) whole in
    let l = length-map ts tag_saying in
    let m = many pages ts tagged in
    let in-range : b * per + k < length pages = omega arith in
    let in_block : k < length (take per (drop (b * per) xs)) = simp (length-take, length-drop) (omega arith) in
    let says = get_or-take per (drop (b * per) xs) k nothing h ∙ get_or-drop (b * per) xs k nothing ∙ tag_says pages ts tagged (b * per + k) in-range in
    silent_erased (get_or pages (b * per + k) [])
    (sym (is_nothing_bare (said (get_or pages (b * per + k) []))) ∙ ap is_nothing (sym says) ∙ silent_at (take per (drop (b * per) xs)) at.silent k in_block)
