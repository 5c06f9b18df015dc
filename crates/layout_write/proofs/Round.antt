-- What is written is read again.
use Rattle.std.proofs.Common.{◌≡◌, ℕ, zero, suc, ◌+◌, ◌-◌, ◌/◌, ◌%◌, ◌<◌, ◌≤◌, Bool, true, cond, ◌&&◌, eqb, ltb, leb, List, [], ◌∷◌, ◌++◌, length, get_or, drop, replicate, refl, ap, ◌∙◌, arith, lit<}
use Rattle.std.specs.List.{flat_map}
use Rattle.std.proofs.lemmas.List.{drop_at, append_assoc, append-nil, length-append, length-replicate}
use Rattle.std.proofs.lemmas.Bool.{and_parts, and_from, eq-eqb, le-leb, leb-true}
use Rattle.limits.specs.Numbers.{rising}
use Rattle.layout.specs.Bytes.{all_zero, words}
use Rattle.layout.specs.Parts.{register_kinds, fits}
use Rattle.layout.specs.declared.parts.PartKind.TheVariants as kind
use Rattle.layout.specs.Page.{Data, Deletion, Register, Bad, tagged_meaning, register_with_end, meaning}
use Rattle.layout_write.specs.Written.{le32, tag_bytes, data_page, pairs_from, whole, padded, register_data, register_page}
use Rattle.layout_write.specs.Laws.{ReadAgain}
use Rattle.layout_write.proofs.Digits.{le32_read}
use Rattle.layout_write.proofs.Writes.{length_fours, length_pairs}
use Rattle.layout_write.proofs.TagRound.{page_data, tag_read_lem}
use Rattle.layout_write.proofs.PartsRound.{parts_read}

-- the birth of every kind, and the sector of a version
birth_fits : (b : ℕ) (t : Bool) → 1 ≤ b → b ≤ 4294967294 → t ≡ true → (leb 1 b && (leb b 4294967294 && t)) ≡ true
birth_fits b t lo hi e = (λ i. le-leb 1 b lo i && (le-leb b 4294967294 hi i && e i))

sector_fits : (s : ℕ) → s ≤ 2047 → (leb s 2047 && true) ≡ true
sector_fits s h = ap (λ t. t && true) (le-leb s 2047 h)

data_page_means : (s b : ℕ) (bytes : List ℕ) → s ≤ 2047 → 1 ≤ b → b ≤ 4294967294 → length bytes ≡ 512 → meaning (data_page s b bytes) ≡ Data s b
data_page_means s b bytes hs lo hi ld =
    ap (λ t. tagged_meaning t (data_page s b bytes)) (tag_read_lem bytes 1 s b ld refl (omega arith) (omega arith) (birth_fits b _ lo hi (sector_fits s hs)))

zeros : (n : ℕ) → all_zero (replicate n 0) ≡ true
zeros zero = refl
zeros (suc n) = zeros n

-- at any data that are all 00
deletion_at : (d : List ℕ) (s b : ℕ) → length d ≡ 512 → all_zero d ≡ true → s ≤ 2047 → 1 ≤ b → b ≤ 4294967294 → meaning (d ++ tag_bytes 2 s b) ≡ Deletion s b
deletion_at d s b ld z hs lo hi =
    ap (λ t. tagged_meaning t (d ++ tag_bytes 2 s b)) (tag_read_lem d 2 s b ld refl (omega arith) (omega arith) (birth_fits b _ lo hi (sector_fits s hs)))
    ∙ ap (λ t. cond t (Deletion s b) (Bad 31)) (ap all_zero (page_data d 2 s b ld) ∙ z)

words_fours : (b low : ℕ) (ns : List ℕ) → b < 4294967296 → rising low b ns ≡ true → words (flat_map le32 ns) ≡ ns
words_fours b low [] hb r = refl
words_fours b low (n ∷ ns) hb r =
    let x = and_parts (ltb low n) (leb n b && rising n b ns) r in
    let y = and_parts (leb n b) (rising n b ns) x.1 in
    let e = le32_read n (omega (arith, leb-true n b y.0)) in
    (λ i. e i ∷ words_fours b n ns hb y.1 i)

held_fits : (held : List ℕ) → length held ≤ 8 → fits kind.Held (length (flat_map le32 held)) ≡ true
held_fits held h =
    let l = length_fours held in
    let n = length (flat_map le32 held) in
    let q : n % 4 ≡ 0 = omega arith in
    let d : n / 4 ≤ 8 = omega arith in
    and_from (eqb (n % 4) 0) (leb (n / 4) 8) (eq-eqb (n % 4) 0 q) (le-leb (n / 4) 8 d)

label_fits : (n : ℕ) → n ≤ 32 → fits kind.Label n ≡ true
label_fits n h =
    let q : n % 1 ≡ 0 = omega arith in
    let d : n / 1 ≤ 32 = omega arith in
    and_from (eqb (n % 1) 0) (leb (n / 1) 32) (eq-eqb (n % 1) 0 q) (le-leb (n / 1) 32 d)

regroup : (a w z t : List ℕ) → ((a ++ w) ++ z) ++ t ≡ a ++ (w ++ (z ++ t))
regroup a w z t = simp append_assoc

-- data of pairs a, parts w and bytes z, and a tag t
module _ (a w z t : List ℕ) (la : length a ≡ 8) where
  after_pairs : drop 8 (((a ++ w) ++ z) ++ t) ≡ w ++ (z ++ t)
  after_pairs = ap (drop 8) (regroup a w z t) ∙ drop_at a (w ++ (z ++ t)) 8 la

  after_parts : drop (8 + length w) ((a ++ w) ++ z) ≡ z
  after_parts = drop_at (a ++ w) z (8 + length w) (omega (arith, length-append a w))

length_padded : (n : ℕ) (xs : List ℕ) → length xs ≤ n → length (padded n xs) ≡ n
length_padded n xs h = omega (arith, length-append xs (replicate (n - length xs) 0), length-replicate {A = ℕ} (n - length xs) 0)

register_page_means : (b : ℕ) (held label : List ℕ) → 1 ≤ b → b ≤ 4294967294 → length held ≤ 8 → rising 0 b held ≡ true → length label ≤ 32 → meaning (register_page b held label) ≡ Register b held label
register_page_means b held label lo hi few known short =
    let h = flat_map le32 held in
    let xs = h ∷ label ∷ [] in
    let a = pairs_from 8 xs in
    let w = whole xs in
    let z : List ℕ = replicate (512 - length (a ++ w)) 0 in
    let t = tag_bytes 3 65535 b in
    let p = register_page b held label in
    let la = length_pairs 8 xs in
    let lw : length w ≡ length h + length label = length-append h (label ++ []) ∙ ap (λ l. length h + length l) (append-nil label) in
    let lh = length_fours held in
    let ld : length (register_data xs) ≡ 512 = length_padded 512 (a ++ w) (omega (arith, length-append a w)) in
    let r = parts_read register_kinds xs p 0 8 (w ++ (z ++ t)) (z ++ t) (held_fits held few, (label_fits (length label) short, tt)) (omega arith) (regroup a w z t) (after_pairs a w z t la) in
    let words_are = ap (λ l. words (get_or l 0 [])) r.1 ∙ words_fours b 0 held (omega arith) known in
    let rises = ap (rising 0 b) words_are ∙ known in
    let tail = ap (λ d. all_zero (drop (8 + length w) d)) (page_data (register_data xs) 3 65535 b ld) ∙ ap all_zero (after_parts a w z t la) ∙ zeros (512 - length (a ++ w)) in
    ap (λ y. tagged_meaning y p) (tag_read_lem (register_data xs) 3 65535 b ld refl (lit< tt) (omega arith) (birth_fits b true lo hi refl))
    ∙ ap (λ o. register_with_end o b p) r.0
    ∙ (λ i. cond (rises i) (cond (tail i) (Register b (words_are i) (get_or (r.1 i) 1 [])) (Bad 34)) (Bad 33))

pub read_again : ReadAgain
read_again = record {
  data_page_means = data_page_means;
  data_bytes = λ s b bytes ld. page_data bytes 1 s b ld;
  deletion = λ s b hs lo hi. deletion_at (replicate 512 0) s b refl refl hs lo hi;
  register = register_page_means;
}
