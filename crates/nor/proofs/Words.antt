-- A page by the words that hold its pairs of bytes.
use Rattle.std.proofs.Common.{◌≡◌, ℕ, ◌+◌, ◌*◌, ◌/◌, ◌%◌, ◌<◌, Bool, true, false, MatchBool, List, length, get_or, set, sym, ap, ◌∙◌, ⊎_elim, arith, length-set}
use Rattle.std.specs.List.{range_with_len, AllWithin, HoldsAt}
use Rattle.std.proofs.lemmas.Nat.{div-mul-add, mod-mul-add}
use Rattle.std.proofs.lemmas.List.FromFn.{fill_by_all, get_or-map-range_with_len, get_or-range_with_len, length-range_with_len}
use Rattle.std.proofs.lemmas.List.{get_or-set_same, get_or-set_other}
use Rattle.std.proofs.lemmas.Bool.{cases_eq, cases_Bool, eq-eqb, ne_eqb, false≢true}
use Rattle.chip.specs.Pages.{Page, is_erased, erased_page}
use Rattle.chip.proofs.Pagewise.{erased_bytewise, erased_byte, erased_page_bytewise}
use Rattle.nor.specs.Image.{page_byte, nor_page, word_at}
use Rattle.nor.specs.Shaped.{length_page}
use Rattle.nor.proofs.Places.{byte_of_pair}

-- The word of the i-th pair of page n.
abbrev pub word_of : ℕ → ℕ → ℕ
word_of n i = word_at (n / 8) (n % 8) i

pub word_of_lem : (b p i : ℕ) → p < 8 → word_of (b * 8 + p) i ≡ word_at b p i
word_of_lem b p i h =
    ap (λ c. word_at c ((b * 8 + p) % 8) i) (div-mul-add b 8 p h) ∙ ap (λ q. word_at b q i) (mod-mul-add b 8 p h)

pub low_byte : (ws : List ℕ) (n i : ℕ) → page_byte ws n (2 * i) ≡ get_or ws (word_of n i) 0 % 256
low_byte ws n i =
    let half : 2 * i / 2 ≡ i = omega arith in
    let e = eq-eqb (2 * i % 2) 0 (omega arith) in
    byte_of_pair ws (n / 8) (n % 8) (2 * i) ∙ rw e (ap (λ k. get_or ws (word_of n k) 0 % 256) half)

pub high_byte : (ws : List ℕ) (n i : ℕ) → page_byte ws n (2 * i + 1) ≡ get_or ws (word_of n i) 0 / 256 % 256
high_byte ws n i =
    let half : (2 * i + 1) / 2 ≡ i = omega arith in
    let e = ne_eqb ((2 * i + 1) % 2) 0 (λ z. omega arith) in
    byte_of_pair ws (n / 8) (n % 8) (2 * i + 1) ∙ rw e (ap (λ k. get_or ws (word_of n k) 0 / 256 % 256) half)

-- What holds of each low byte and each high byte holds of every byte.
pub by_pairs : (P : ℕ → Type 0) (m : ℕ) → ((i : ℕ) → i < m → P (2 * i)) → ((i : ℕ) → i < m → P (2 * i + 1)) → (k : ℕ) → k < 2 * m → P k
by_pairs P m low high k h =
    ⊎_elim (λ e. let f : 2 * (k / 2) ≡ k = omega arith in rw f at (low (k / 2) (omega arith))) (λ e. let f : 2 * (k / 2) + 1 ≡ k = omega arith in rw f at (high (k / 2) (omega arith))) (cases_eq (k % 2) 0)

pub page_byte_lem : (ws : List ℕ) (n j : ℕ) → j < 528 → get_or (nor_page ws n) j 0 ≡ page_byte ws n j
unfolding nor_page
page_byte_lem ws n j h = get_or-map-range_with_len (page_byte ws n) 0 528 j j 0 h (omega arith)

-- A page is what its bytes are.
pub page_bytewise : (ws : List ℕ) (n : ℕ) (xs : Page) → length xs ≡ 528 → ((k : ℕ) → k < 528 → get_or xs k 0 ≡ page_byte ws n k) → xs ≡ nor_page ws n
unfolding nor_page
page_bytewise ws n xs l h = fill_by_all (page_byte ws n) xs 528 0 l h

pub page_same : (ws vs : List ℕ) (n : ℕ) → ((i : ℕ) → i < 264 → get_or ws (word_of n i) 0 ≡ get_or vs (word_of n i) 0) → nor_page ws n ≡ nor_page vs n
page_same ws vs n same =
    page_bytewise vs n (nor_page ws n) (length_page ws n) (λ k h. page_byte_lem ws n k h ∙ by_pairs (λ j. page_byte ws n j ≡ page_byte vs n j) 264 (λ i l. low_byte ws n i ∙ ap (λ w. w % 256) (same i l) ∙ sym (low_byte vs n i)) (λ i l. high_byte ws n i ∙ ap (λ w. w / 256 % 256) (same i l) ∙ sym (high_byte vs n i)) k h)

-- A page of words FFFF is erased, and an erased page has no other word.
all_ones : (ws : List ℕ) (n : ℕ) → ((i : ℕ) → i < 264 → get_or ws (word_of n i) 0 ≡ 65535) → (k : ℕ) → k < 528 → get_or (nor_page ws n) k 0 ≡ 255
all_ones ws n ones k h =
    page_byte_lem ws n k h ∙ by_pairs (λ j. page_byte ws n j ≡ 255) 264 (λ i l. low_byte ws n i ∙ ap (λ w. w % 256) (ones i l)) (λ i l. high_byte ws n i ∙ ap (λ w. w / 256 % 256) (ones i l)) k h

pub ones_erased : (ws : List ℕ) (n : ℕ) → ((i : ℕ) → i < 264 → get_or ws (word_of n i) 0 ≡ 65535) → is_erased (nor_page ws n) ≡ true
ones_erased ws n ones =
    erased_bytewise (nor_page ws n) (λ k h. all_ones ws n ones k (omega (arith, length_page ws n)))

pub ones_page : (ws : List ℕ) (n : ℕ) → ((i : ℕ) → i < 264 → get_or ws (word_of n i) 0 ≡ 65535) → nor_page ws n ≡ erased_page
ones_page ws n ones = erased_page_bytewise (nor_page ws n) (length_page ws n) (all_ones ws n ones)

pub erased_ones : (ws : List ℕ) (n i : ℕ) → is_erased (nor_page ws n) ≡ true → i < 264 → get_or ws (word_of n i) 0 < 65536 → get_or ws (word_of n i) 0 ≡ 65535
erased_ones ws n i e h small =
    let low = sym (low_byte ws n i) ∙ sym (page_byte_lem ws n (2 * i) (omega arith)) ∙ erased_byte (nor_page ws n) e (2 * i) (omega (arith, length_page ws n)) in
    let high = sym (high_byte ws n i) ∙ sym (page_byte_lem ws n (2 * i + 1) (omega arith)) ∙ erased_byte (nor_page ws n) e (2 * i + 1) (omega (arith, length_page ws n)) in
    omega arith

pub other_word : (ws : List ℕ) (n i : ℕ) → i < 264 → get_or ws (word_of n i) 0 < 65536 → (get_or ws (word_of n i) 0 ≡ 65535 → ⊥) → false ≡ is_erased (nor_page ws n)
other_word ws n i h small differs =
    ⊎_elim (λ e. absurd (differs (erased_ones ws n i e h small))) (λ e. sym e) (cases_Bool (is_erased (nor_page ws n)))

-- What it tells of a page to ask each of its words whether it is FFFF. (m is 264, as a variable: at the numeral, lists compute to all their elements.)
module _ (ws : List ℕ) (b p m : ℕ) (size : m ≡ 264) (hp : p < 8) where
  abbrev w : ℕ → ℕ
  w i = get_or ws (word_at b p i) 0

  abbrev pub Asked : Bool → Type 0
  Asked r = MatchBool r (AllWithin (λ i. w i ≡ 65535) (range_with_len 0 m) 0 (length (range_with_len 0 m))) ((k : ℕ) × (k < length (range_with_len 0 m)) × HoldsAt (λ i. (w i ≡ 65535 → ⊥) × (w i < 65536)) (range_with_len 0 m) k)

  item : (i : ℕ) → i < 264 → get_or (range_with_len 0 m) i 0 ≡ i
  item i h = omega (arith, get_or-range_with_len 0 m i 0 (omega arith))

  all_of : AllWithin (λ i. w i ≡ 65535) (range_with_len 0 m) 0 (length (range_with_len 0 m)) → (i : ℕ) → i < 264 → w i ≡ 65535
  all_of h i l = rw (item i l) at (h i 0 (omega arith) (omega (arith, length-range_with_len 0 m)))

  pub asked_ones : (r : Bool) → Asked r → r ≡ true → (i : ℕ) → i < 264 → w i ≡ 65535
  asked_ones true h e = all_of h
  asked_ones false h e = absurd (false≢true e)

  pub asked_erased : (r : Bool) → Asked r → r ≡ is_erased (nor_page ws (b * 8 + p))
  asked_erased true h =
      sym (ones_erased ws (b * 8 + p) (λ i l. ap (λ k. get_or ws k 0) (word_of_lem b p i hp) ∙ all_of h i l))
  asked_erased false (k, l, h) =
      let inside : k < 264 = omega (arith, length-range_with_len 0 m) in
      let e = word_of_lem b p k hp in
      let at : (w k ≡ 65535 → ⊥) × (w k < 65536) = rw (item k inside) at (h 0) in
      other_word ws (b * 8 + p) k inside (rw e at.1) (λ d. at.0 (rw e at d))

-- One pair of bytes more.
pub copy_more : (ws buffer : List ℕ) (n i low high : ℕ) → 2 * i + 1 < length buffer → low ≡ get_or ws (word_of n i) 0 % 256 → high ≡ get_or ws (word_of n i) 0 / 256 % 256 → ((k : ℕ) → k < 2 * i → get_or buffer k 0 ≡ page_byte ws n k) → (k : ℕ) → k < 2 * (i + 1) → get_or (set (set buffer (2 * i) low) (2 * i + 1) high) k 0 ≡ page_byte ws n k
copy_more ws buffer n i low high room l h so_far k below =
    ⊎_elim (λ e. rw e (get_or-set_same (set buffer (2 * i) low) (2 * i + 1) high 0 (simp length-set (omega arith)) ∙ h ∙ sym (high_byte ws n i))) (λ d. get_or-set_other (set buffer (2 * i) low) (2 * i + 1) k high 0 d ∙ ⊎_elim (λ e. rw e (get_or-set_same buffer (2 * i) low 0 (omega arith) ∙ l ∙ sym (low_byte ws n i))) (λ d'. get_or-set_other buffer (2 * i) k low 0 d' ∙ so_far k (omega arith)) (cases_eq k (2 * i))) (cases_eq k (2 * i + 1))
