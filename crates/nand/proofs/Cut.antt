-- Laws of `pages_of`: how a list of bytes is cut into pages.
use Rattle.std.proofs.Common.{◌≡◌, ℕ, zero, suc, ◌+◌, ◌-◌, ◌*◌, ◌/◌, ◌<◌, ◌≤◌, min, List, [], ◌∷◌, ◌++◌, length, get_or, take, drop, set, replicate, sym, refl, ap, ◌∙◌, mul-le-mul_right, suc-mul, arith, length-append, length-drop, length-take}
use base.Fml.{GName}
use borrow.Rule.Slice.PartMut.{put_mid}
use lib.ListN.{length-replicate}
use Rattle.std.proofs.lemmas.List.{drop-drop, take_at, drop_at, take-append-le, drop-append-le, set_split, length-take-le, take-replicate, drop-replicate, take-append-drop, take_all}
use Rattle.std.proofs.lemmas.Slice.{drop-put_mid}
use Rattle.chip.specs.Pages.{erased_page}
use Rattle.chip.proofs.Ways.{Found}
use Rattle.nand.specs.Image.{pages_of, nand_blocks, nand_pages}
use Rattle.nand.specs.Shaped.{length_pages_of, length_nand, blocks_fit}

pub get_or_pages_of : (n k : ℕ) (bs : List ℕ) → k < n → get_or (pages_of n bs) k [] ≡ take 528 (drop (k * 528) bs)
get_or_pages_of zero k bs h = absurd (omega arith)
get_or_pages_of (suc n) zero bs h = refl
get_or_pages_of (suc n) (suc k) bs h =
    let e : 528 + k * 528 ≡ suc k * 528 = omega arith in
    get_or_pages_of n k (drop 528 bs) (omega arith) ∙ ap (take 528) (drop-drop (k * 528) 528 bs ∙ ap (λ m. drop m bs) e)

pub pages_of_append : (m n : ℕ) (xs ys : List ℕ) → length xs ≡ m * 528 → pages_of (m + n) (xs ++ ys) ≡ pages_of m xs ++ pages_of n ys
pages_of_append zero n [] ys h = ap (λ k. pages_of k ys) (omega arith)
pages_of_append zero n (x ∷ xs) ys h = absurd (omega arith)
pages_of_append (suc m) n xs ys h =
    let e : suc m + n ≡ suc (m + n) = omega arith in
    let t : take 528 (xs ++ ys) ≡ take 528 xs = take-append-le 528 xs ys (omega arith) in
    let d : drop 528 (xs ++ ys) ≡ drop 528 xs ++ ys = drop-append-le 528 xs ys (omega arith) in
    let l : length (drop 528 xs) ≡ m * 528 = simp length-drop (omega arith) in
    ap (λ k. pages_of k (xs ++ ys)) e ∙ ap (λ z. z ∷ pages_of (m + n) (drop 528 (xs ++ ys))) t ∙ ap (λ z. take 528 xs ∷ pages_of (m + n) z) d ∙ ap (λ z. take 528 xs ∷ z) (pages_of_append m n (drop 528 xs) ys l)

-- The front of the pages is cut from the front of the bytes, and the rest from the rest.
pub pages_of_split : (k r : ℕ) (bs : List ℕ) → k * 528 ≤ length bs → pages_of (k + r) bs ≡ pages_of k (take (k * 528) bs) ++ pages_of r (drop (k * 528) bs)
pages_of_split k r bs h =
    ap (pages_of (k + r)) (sym (take-append-drop (k * 528) bs)) ∙ pages_of_append k r (take (k * 528) bs) (drop (k * 528) bs) (length-take-le (k * 528) bs h)

pub take_pages_of : (k r : ℕ) (bs : List ℕ) → k * 528 ≤ length bs → take k (pages_of (k + r) bs) ≡ pages_of k (take (k * 528) bs)
take_pages_of k r bs h = ap (take k) (pages_of_split k r bs h) ∙ take_at _ _ k (length_pages_of k (take (k * 528) bs))

pub drop_pages_of : (k r : ℕ) (bs : List ℕ) → k * 528 ≤ length bs → drop k (pages_of (k + r) bs) ≡ pages_of r (drop (k * 528) bs)
drop_pages_of k r bs h = ap (drop k) (pages_of_split k r bs h) ∙ drop_at _ _ k (length_pages_of k (take (k * 528) bs))

-- m pages written over the bytes, from the k-th page on.
pub pages_of_put : (k m r : ℕ) (bs ys : List ℕ) → (k + (m + r)) * 528 ≤ length bs → length ys ≡ m * 528 → pages_of (k + (m + r)) (put_mid (k * 528) (m * 528) bs ys) ≡ take k (pages_of (k + (m + r)) bs) ++ (pages_of m ys ++ drop (k + m) (pages_of (k + (m + r)) bs))
pages_of_put k m r bs ys h l =
    let front : k * 528 ≤ length bs = omega arith in
    let both : (k + m) * 528 ≤ length bs = omega arith in
    let at : k * 528 + m * 528 ≡ (k + m) * 528 = omega arith in
    let sum : k + (m + r) ≡ (k + m) + r = omega arith in
    let rest : drop (m * 528) (drop (k * 528) bs) ≡ drop ((k + m) * 528) bs = drop-drop (m * 528) (k * 528) bs ∙ ap (λ n. drop n bs) at in
    let left = pages_of_append k (m + r) (take (k * 528) bs) (ys ++ drop (m * 528) (drop (k * 528) bs)) (length-take-le (k * 528) bs front) in
    let mid = pages_of_append m r ys (drop (m * 528) (drop (k * 528) bs)) l in
    let t = take_pages_of k (m + r) bs front in
    let d = ap (λ n. drop (k + m) (pages_of n bs)) sum ∙ drop_pages_of (k + m) r bs both in
    left ∙ ap (λ z. pages_of k (take (k * 528) bs) ++ z) mid ∙ ap (λ z. z ++ (pages_of m ys ++ pages_of r (drop (m * 528) (drop (k * 528) bs)))) (sym t) ∙ ap (λ z. take k (pages_of (k + (m + r)) bs) ++ (pages_of m ys ++ z)) (ap (pages_of r) rest ∙ sym d)

-- One page written.
pub pages_of_set : (n k : ℕ) (bs ys : List ℕ) → k < n → n * 528 ≤ length bs → length ys ≡ 528 → pages_of n (put_mid (k * 528) 528 bs ys) ≡ set (pages_of n bs) k ys
pages_of_set n k bs ys h w l =
    let e : k + (1 + (n - k - 1)) ≡ n = omega arith in
    let one : pages_of 1 ys ≡ ys ∷ [] = ap (λ z. z ∷ []) (take_all 528 ys (omega arith)) in
    let p = pages_of_put k 1 (n - k - 1) bs ys (omega arith) (omega arith) in
    let q : pages_of n (put_mid (k * 528) 528 bs ys) ≡ take k (pages_of n bs) ++ (pages_of 1 ys ++ drop (k + 1) (pages_of n bs)) = rw e at p in
    let s : k + 1 ≡ suc k = omega arith in
    q ∙ ap (λ z. take k (pages_of n bs) ++ (z ++ drop (k + 1) (pages_of n bs))) one ∙ ap (λ z. take k (pages_of n bs) ++ (ys ∷ drop z (pages_of n bs))) s ∙ sym (set_split (pages_of n bs) k ys (rw (length_pages_of n bs) h))

pub pages_of_erased : (m : ℕ) → pages_of m (replicate (m * 528) 255) ≡ replicate m erased_page
unfolding erased_page
pages_of_erased zero = refl
pages_of_erased (suc m) =
    let e : suc m * 528 - 528 ≡ m * 528 = omega arith in
    ap (λ z. z ∷ pages_of m (drop 528 (replicate (suc m * 528) 255))) (take-replicate 528 (suc m * 528) 255 (omega arith)) ∙ ap (λ z. erased_page ∷ pages_of m z) (drop-replicate 528 (suc m * 528) 255 ∙ ap (λ n. replicate n 255) e) ∙ ap (λ z. erased_page ∷ z) (pages_of_erased m)

-- m pages erased, from the k-th on.
pub pages_of_erase : (n k m : ℕ) (bs ys : List ℕ) → k + m ≤ n → n * 528 ≤ length bs → ys ≡ replicate (m * 528) 255 → pages_of n (put_mid (k * 528) (m * 528) bs ys) ≡ take k (pages_of n bs) ++ (replicate m erased_page ++ drop (k + m) (pages_of n bs))
pages_of_erase n k m bs ys h w e =
    let sum : k + (m + (n - k - m)) ≡ n = omega arith in
    let p = pages_of_put k m (n - k - m) bs ys (omega arith) (ap length e ∙ length-replicate (m * 528) 255) in
    let q : pages_of n (put_mid (k * 528) (m * 528) bs ys) ≡ take k (pages_of n bs) ++ (pages_of m ys ++ drop (k + m) (pages_of n bs)) = rw sum at p in
    q ∙ ap (λ z. take k (pages_of n bs) ++ (z ++ drop (k + m) (pages_of n bs))) (ap (pages_of m) e ∙ pages_of_erased m)

pub get_or_nand : (bs : List ℕ) (k : ℕ) → k < nand_blocks bs * 32 → get_or (nand_pages bs) k [] ≡ take 528 (drop (k * 528) bs)
unfolding nand_pages
get_or_nand bs k h = get_or_pages_of (nand_blocks bs * 32) k bs h

-- A write within the image leaves as many blocks.
pub same_blocks : (a k : ℕ) (bs ys : List ℕ) → a + k ≤ length bs → length ys ≡ k → nand_blocks (put_mid a k bs ys) ≡ nand_blocks bs
same_blocks a k bs ys h l =
    let len : length (put_mid a k bs ys) ≡ length bs = simp (length-append, length-take, length-drop) (omega arith) in
    ap (λ n. min 128 (n / 16896)) len

-- A write within the pages leaves the bytes that belong to none.
pub rest_nand : (a k : ℕ) (bs ys : List ℕ) → a + k ≤ nand_blocks bs * 16896 → length ys ≡ k → drop (nand_blocks bs * 16896) (put_mid a k bs ys) ≡ drop (nand_blocks bs * 16896) bs
rest_nand a k bs ys h l = drop-put_mid a k bs ys (nand_blocks bs * 16896) h (omega (arith, blocks_fit bs)) l

pub kept_nand : (lent : GName) (a k : ℕ) (bs ys : List ℕ) → a + k ≤ nand_blocks bs * 16896 → length ys ≡ k → ◌≡◌ {A = GName × List ℕ} (lent, drop (nand_blocks (put_mid a k bs ys) * 16896) (put_mid a k bs ys)) (lent, drop (nand_blocks bs * 16896) bs)
kept_nand lent a k bs ys h l =
    ap (λ (n : ℕ). (lent, drop (n * 16896) (put_mid a k bs ys))) (same_blocks a k bs ys (omega (arith, blocks_fit bs)) l) ∙ ap (λ (z : List ℕ). (lent, z)) (rest_nand a k bs ys h l)

-- A page that was found, as the code cuts it out of the bytes.
module _ (bs : List ℕ) {p n block place : ℕ} (found : Found 32 (nand_pages bs) p n block place) where
  abbrev start : ℕ
  start = block * 16896 + place * 528

  pub place_nand : (start ≡ p * 528) × (p < nand_blocks bs * 32)
  place_nand = (omega (arith, found.in_block, found.at), omega (arith, found.inside, length_nand bs))

  pub part_nand : start + 528 ≤ length bs
  part_nand = omega (arith, place_nand.0, place_nand.1, blocks_fit bs)

  pub page_nand : get_or (nand_pages bs) p [] ≡ take 528 (drop start bs)
  page_nand = get_or_nand bs p place_nand.1 ∙ ap (λ i. take 528 (drop i bs)) (sym place_nand.0)

  pub read_nand : get_or (nand_pages bs) p [] ≡ take (start + 528 - start) (drop start bs)
  read_nand =
      let n : 528 ≡ start + 528 - start = omega arith in
      page_nand ∙ ap (λ m. take m (drop start bs)) n

  -- The page is written.
  module _ (ys : List ℕ) (long : length ys ≡ 528) where
    abbrev put : List ℕ
    put = put_mid start (start + 528 - start) bs ys

    pub same_page : nand_blocks put ≡ nand_blocks bs
    same_page = same_blocks start (start + 528 - start) bs ys (omega (arith, part_nand)) (omega arith)

    pub kept_page : (lent : GName) → ◌≡◌ {A = GName × List ℕ} (lent, drop (nand_blocks put * 16896) put) (lent, drop (nand_blocks bs * 16896) bs)
    kept_page lent =
        kept_nand lent start (start + 528 - start) bs ys (omega (arith, place_nand.0, place_nand.1)) (omega arith)

    pub set_nand : nand_pages put ≡ set (nand_pages bs) p ys
    unfolding nand_pages
    set_nand =
        let e : start + 528 - start ≡ 528 = omega arith in
        ap (λ n. pages_of (n * 32) put) same_page ∙ ap (λ n. pages_of (nand_blocks bs * 32) (put_mid start n bs ys)) e ∙ ap (λ i. pages_of (nand_blocks bs * 32) (put_mid i 528 bs ys)) place_nand.0 ∙ pages_of_set (nand_blocks bs * 32) p bs ys place_nand.1 (blocks_fit bs) long

-- A block of erased bytes written. (m is 32, as a variable: at the numeral, lists compute to all their elements.)
pub erase_nand : (m : ℕ) (bs ys : List ℕ) (b a k : ℕ) → m ≡ 32 → a ≡ b * m * 528 → k ≡ m * 528 → b < nand_blocks bs → ys ≡ replicate k 255 → nand_pages (put_mid a k bs ys) ≡ take (b * m) (nand_pages bs) ++ (replicate m erased_page ++ drop (b * m + m) (nand_pages bs))
unfolding nand_pages
erase_nand m bs ys b a k thirty_two at size h e =
    let n = nand_blocks bs * 32 in
    let product : nand_blocks bs * m ≡ n = ap (λ z. nand_blocks bs * z) thirty_two in
    let within : b * m + m ≤ n = omega (arith, mul-le-mul_right {m = suc b} {n = nand_blocks bs} m h, suc-mul b m) in
    let fit = blocks_fit bs in
    let long : length ys ≡ k = ap length e ∙ length-replicate k 255 in
    let len : length (put_mid a k bs ys) ≡ length bs = simp (length-append, length-take, length-drop) (omega arith) in
    let same : nand_blocks (put_mid a k bs ys) ≡ nand_blocks bs = ap (λ j. min 128 (j / 16896)) len in
    ap (λ j. pages_of (j * 32) (put_mid a k bs ys)) same ∙ ap (λ j. pages_of n (put_mid j k bs ys)) at ∙ ap (λ j. pages_of n (put_mid (b * m * 528) j bs ys)) size ∙ pages_of_erase n (b * m) m bs ys within fit (e ∙ ap (λ j. replicate j 255) size)
