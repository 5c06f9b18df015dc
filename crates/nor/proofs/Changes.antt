-- What a program and an erase do to the pages.
use Rattle.std.proofs.Common.{◌≡◌, ℕ, zero, suc, ◌+◌, ◌-◌, ◌*◌, ◌/◌, ◌%◌, ◌<◌, ◌≤◌, min, ◌≢◌, ◌⊎◌, List, [], ◌++◌, length, get_or, take, drop, set, replicate, sym, refl, ap, ◌∙◌, ⊎_elim, arith, length-append, length-drop, length-set, length-take}
use base.Fml.{GName}
use borrow.Rule.Slice.PartMut.{put_mid}
use lib.Bits.{bit_and}
use lib.ListN.{length-replicate}
use Rattle.std.proofs.lemmas.Nat.{and_comm, and_mask}
use Rattle.std.proofs.lemmas.List.FromFn.{get_or-map-range_with_len}
use Rattle.std.proofs.lemmas.List.{get_or-set_same, get_or-set_other, drop-set-lt, get_or-replicate, places}
use Rattle.std.proofs.lemmas.Slice.{drop-put_mid}
use Rattle.std.proofs.lemmas.Bool.{cases_eq}
use Rattle.chip.specs.Pages.{erased_page}
use Rattle.chip.proofs.Ways.{Found}
use Rattle.chip.proofs.Pagewise.{set_pagewise, erase_pagewise}
use Rattle.nor.specs.Image.{page_byte, nor_blocks, nor_page, nor_pages, word_at}
use Rattle.nor.specs.At.{IsPage}
use Rattle.nor.specs.Program.{pair_of, anded, programmed}
use Rattle.nor.specs.Shaped.{length_nor}
use Rattle.nor.proofs.Places.{word_below, word_apart}
use Rattle.nor.proofs.Words.{word_of, word_of_lem, low_byte, high_byte, by_pairs, page_bytewise, page_same, ones_page}

pub get_or_nor : (ws : List ℕ) (n : ℕ) → n < nor_blocks ws * 8 → get_or (nor_pages ws) n [] ≡ nor_page ws n
unfolding nor_pages
get_or_nor ws n h = get_or-map-range_with_len (nor_page ws) 0 (nor_blocks ws * 8) n n [] h (omega arith)

-- A page that was found is there.
pub is_page : (ws : List ℕ) {n bytes block place : ℕ} → Found 8 (nor_pages ws) n bytes block place → IsPage ws n bytes block place
is_page ws {n} {bytes} {block} {place} f =
    let whole : block * 8 + place ≡ n = omega (arith, f.in_block, f.at) in
    record {
      is = whole;
      in_block = omega (arith, f.inside, f.in_block, length_nor ws);
      exists = f.inside;
      whole = f.whole;
      holds = get_or_nor ws n (omega (arith, f.inside, length_nor ws)) ∙ ap (nor_page ws) (sym whole);
    }

pub same_blocks : (ws vs : List ℕ) → length vs ≡ length ws → nor_blocks vs ≡ nor_blocks ws
same_blocks ws vs e = ap (λ n. min 512 (n / 2112)) e

same_pages : (ws vs : List ℕ) → length vs ≡ length ws → length (nor_pages vs) ≡ length (nor_pages ws)
same_pages ws vs e = length_nor vs ∙ ap (λ n. n * 8) (same_blocks ws vs e) ∙ sym (length_nor ws)

-- The lent words, and those beyond the last block.
pub kept_nor : (lent : GName) (ws vs : List ℕ) → length vs ≡ length ws → drop (nor_blocks ws * 2112) vs ≡ drop (nor_blocks ws * 2112) ws → ◌≡◌ {A = GName × List ℕ} (lent, drop (nor_blocks vs * 2112) vs) (lent, drop (nor_blocks ws * 2112) ws)
kept_nor lent ws vs e f =
    ap (λ (n : ℕ). (lent, drop (n * 2112) vs)) (same_blocks ws vs e) ∙ ap (λ (z : List ℕ). (lent, z)) f

-- A 16-bit value survives the AND with a word of ones: that is why programming an erased page makes it hold the bytes.
and_ones : (v : ℕ) → v < 65536 → bit_and 65535 v ≡ v
and_ones v h = and_comm 65535 v ∙ and_mask v 16 ∙ omega arith

module _ (ws bytes : List ℕ) (b p : ℕ) (hp : p < 8) where
  pub length_anded : (n : ℕ) → length (anded ws b p bytes n) ≡ length ws
  length_anded zero = refl
  length_anded (suc n) = length-set (anded ws b p bytes n) (word_at b p n) _ ∙ length_anded n

  drop_anded : (m n : ℕ) → b < m → n ≤ 264 → drop (m * 2112) (anded ws b p bytes n) ≡ drop (m * 2112) ws
  drop_anded m zero hb hn = refl
  drop_anded m (suc n) hb hn =
      drop-set-lt (m * 2112) (anded ws b p bytes n) (word_at b p n) _ (word_below b p n m hb hp (omega arith)) ∙ drop_anded m n hb (omega arith)

  -- A word of no pair stands.
  anded_other : (w n : ℕ) → ((k : ℕ) → k < n → w ≢ word_at b p k) → get_or (anded ws b p bytes n) w 0 ≡ get_or ws w 0
  anded_other w zero apart = refl
  anded_other w (suc n) apart =
      get_or-set_other (anded ws b p bytes n) (word_at b p n) w _ 0 (apart n (omega arith)) ∙ anded_other w n (λ k h. apart k (omega arith))

  -- The word of a pair has the pair ANDed into it.
  anded_at : (i n : ℕ) → i < n → n ≤ 264 → b < nor_blocks ws → get_or (anded ws b p bytes n) (word_at b p i) 0 ≡ bit_and (get_or ws (word_at b p i) 0) (pair_of bytes i)
  anded_at i zero hi hn hb = absurd (omega arith)
  anded_at i (suc n) hi hn hb =
      let before = anded ws b p bytes n in
      let inside : word_at b p n < length before = omega (arith, length_anded n, word_below b p n (nor_blocks ws) hb hp (omega arith)) in
      ⊎_elim (λ e. rw e (get_or-set_same before (word_at b p n) _ 0 inside ∙ ap (λ w. bit_and w (pair_of bytes n)) (anded_other (word_at b p n) n (λ k h f. let z = word_apart b p n b p k hp (omega arith) hp (omega arith) f in omega (arith, z.2))))) (λ d. get_or-set_other before (word_at b p n) (word_at b p i) _ 0 (λ f. d (word_apart b p i b p n hp (omega arith) hp (omega arith) f).2) ∙ anded_at i n (omega arith) (omega arith) hb) (cases_eq i n)

  module _ (hb : b < nor_blocks ws) (long : length bytes ≡ 528) (small : (k : ℕ) → get_or bytes k 0 < 256) (ones : (i : ℕ) → i < 264 → get_or ws (word_at b p i) 0 ≡ 65535) where
    -- Each word of the page is its pair of bytes.
    pair_at : (i : ℕ) → i < 264 → get_or (anded ws b p bytes 264) (word_of (b * 8 + p) i) 0 ≡ pair_of bytes i
    pair_at i h =
        ap (λ w. get_or (anded ws b p bytes 264) w 0) (word_of_lem b p i hp) ∙ anded_at i 264 h (omega arith) hb ∙ ap (λ w. bit_and w (pair_of bytes i)) (ones i h) ∙ and_ones (pair_of bytes i) (omega (arith, small (2 * i), small (2 * i + 1)))

    new_page : nor_page (anded ws b p bytes 264) (b * 8 + p) ≡ bytes
    new_page =
        let vs = anded ws b p bytes 264 in
        let n = b * 8 + p in
        sym (page_bytewise vs n bytes long (by_pairs (λ k. get_or bytes k 0 ≡ page_byte vs n k) 264 (λ i h. let e = small (2 * i) in omega (arith, low_byte vs n i, ap (λ w. w % 256) (pair_at i h))) (λ i h. let e = small (2 * i) in let f = small (2 * i + 1) in omega (arith, high_byte vs n i, ap (λ w. w / 256 % 256) (pair_at i h)))))

    old_page : (q : ℕ) → q ≢ b * 8 + p → nor_page (anded ws b p bytes 264) q ≡ nor_page ws q
    old_page q d =
        page_same (anded ws b p bytes 264) ws q (λ i h. anded_other (word_of q i) 264 (λ k l f. let z = word_apart (q / 8) (q % 8) i b p k (omega arith) h hp l f in d (omega (arith, z.0, z.1))))

    pub pages_programmed_lem : nor_pages (programmed ws b p bytes) ≡ set (nor_pages ws) (b * 8 + p) bytes
    unfolding programmed
    pages_programmed_lem =
        let vs = anded ws b p bytes 264 in
        let n = b * 8 + p in
        let l = length_nor ws in
        let s : nor_blocks vs ≡ nor_blocks ws = same_blocks ws vs (length_anded 264) in
        set_pagewise (nor_pages ws) (nor_pages vs) n bytes (same_pages ws vs (length_anded 264)) (omega arith) (get_or_nor vs n (omega arith) ∙ new_page) (λ q h d. get_or_nor vs q (omega arith) ∙ old_page q d ∙ sym (get_or_nor ws q (omega arith)))

    pub length_programmed : length (programmed ws b p bytes) ≡ length ws
    unfolding programmed
    length_programmed = length_anded 264

    pub rest_programmed : drop (nor_blocks ws * 2112) (programmed ws b p bytes) ≡ drop (nor_blocks ws * 2112) ws
    unfolding programmed
    rest_programmed = drop_anded (nor_blocks ws) 264 hb (omega arith)

-- k words FFFF written over the words, from the a-th on.
module _ (ws ys : List ℕ) (a k : ℕ) (fits : a + k ≤ length ws) (long : length ys ≡ k) where
  pub length_put : length (put_mid a k ws ys) ≡ length ws
  length_put = simp (length-append, length-take, length-drop) (omega arith)

  put_before : (w : ℕ) → w < a → get_or (put_mid a k ws ys) w 0 ≡ get_or ws w 0
  put_before w h = grind (arith, places)

  put_within : (w : ℕ) → a ≤ w → w < a + k → get_or (put_mid a k ws ys) w 0 ≡ get_or ys (w - a) 0
  put_within w h l = grind (arith, places)

  put_behind : (w : ℕ) → a + k ≤ w → get_or (put_mid a k ws ys) w 0 ≡ get_or ws w 0
  put_behind w h = grind (arith, places)

-- A block of words FFFF written.
module _ (ws ys : List ℕ) (b a k : ℕ) (hb : b < nor_blocks ws) (at : a ≡ b * 2112) (size : k ≡ 2112) (ones : ys ≡ replicate k 65535) where
  fits : a + k ≤ length ws
  fits = omega arith

  long : length ys ≡ k
  long = ap length ones ∙ length-replicate k 65535

  page_in : (q : ℕ) → b * 8 ≤ q → q < b * 8 + 8 → nor_page (put_mid a k ws ys) q ≡ erased_page
  page_in q low high =
      ones_page (put_mid a k ws ys) q (λ i h. let up = word_below (q / 8) (q % 8) i (b + 1) (omega arith) (omega arith) h in let down : b * 2112 ≤ word_of q i = omega arith in put_within ws ys a k fits long (word_of q i) (omega arith) (omega arith) ∙ ap (λ z. get_or z (word_of q i - a) 0) ones ∙ get_or-replicate k (word_of q i - a) 65535 0 (omega arith))

  page_out : (q : ℕ) → (q < b * 8) ⊎ (b * 8 + 8 ≤ q) → nor_page (put_mid a k ws ys) q ≡ nor_page ws q
  page_out q side =
      page_same (put_mid a k ws ys) ws q (λ i h. ⊎_elim (λ l. let up = word_below (q / 8) (q % 8) i b (omega arith) (omega arith) h in put_before ws ys a k fits long (word_of q i) (omega arith)) (λ l. put_behind ws ys a k fits long (word_of q i) (omega arith)) side)

  pub pages_erased_lem : nor_pages (put_mid a k ws ys) ≡ take (b * 8) (nor_pages ws) ++ (replicate 8 erased_page ++ drop (b * 8 + 8) (nor_pages ws))
  pages_erased_lem =
      let vs = put_mid a k ws ys in
      let l = length_nor ws in
      let s : nor_blocks vs ≡ nor_blocks ws = same_blocks ws vs (length_put ws ys a k fits long) in
      erase_pagewise (nor_pages ws) (b * 8) 8 (omega arith) (nor_pages vs) (same_pages ws vs (length_put ws ys a k fits long)) (λ q low high. get_or_nor vs q (omega arith) ∙ page_in q low high) (λ q h side. get_or_nor vs q (omega arith) ∙ page_out q side ∙ sym (get_or_nor ws q (omega arith)))

  pub length_wiped : length (put_mid a k ws ys) ≡ length ws
  length_wiped = length_put ws ys a k fits long

  pub rest_wiped : drop (nor_blocks ws * 2112) (put_mid a k ws ys) ≡ drop (nor_blocks ws * 2112) ws
  rest_wiped = drop-put_mid a k ws ys (nor_blocks ws * 2112) (omega arith) (omega arith) long
