-- What writing a row leaves of the pages.
use Rattle.std.proofs.Common.{◌≡◌, ℕ, suc, ◌+◌, ◌*◌, ◌<◌, List, [], ◌∷◌, ◌++◌, map, length, take, drop, set, refl, ap, ◌∙◌, arith, length-set}
use lib.Seq.{take-set-lt}
use Rattle.std.proofs.lemmas.List.{get_or-take, drop-set-lt, map-set, set_split, take_more_set, append_assoc}
use Rattle.std.proofs.lemmas.Bool.{lt-ltb}
use Rattle.chip.specs.Pages.{erased_page}
use Rattle.test_chips.specs.declared.row.Row.{Row}
use Rattle.test_chips.specs.Rows.{row_bytes, tiny_blocks, tiny_pages, spare_rows, PageRow, BlockRows}
use Rattle.test_chips.specs.Shaped.{length_pages}

module _ (rows : List Row) (i : ℕ) (h : i < tiny_blocks rows * 2) (row : Row) where
  same_blocks : tiny_blocks (set rows i row) ≡ tiny_blocks rows
  same_blocks = rw length-set

  same_spare : spare_rows (set rows i row) ≡ spare_rows rows
  same_spare = rw same_blocks (drop-set-lt (tiny_blocks rows * 2) rows i row h)

  written : tiny_pages (set rows i row) ≡ set (tiny_pages rows) i row.bytes
  written =
      rw (same_blocks, map-set row_bytes rows i row) (take-set-lt (tiny_blocks rows * 2) (map row_bytes rows) i row.bytes h)

pub page_row : (rows : List Row) (p n : ℕ) → p < tiny_blocks rows * 2 → n ≡ 528 → PageRow rows p n p
page_row rows p n h whole = record {
  is = refl;
  whole = whole;
  exists = rw length_pages h;
  within = omega arith;
  holds = get_or-take (tiny_blocks rows * 2) (map row_bytes rows) p [] h;
  blocks = same_blocks rows p h;
  spare = same_spare rows p h;
  written = written rows p h;
}

-- Two elements in a row are set.
set_two : {X : Type 0} (xs : List X) (i : ℕ) (x y : X) → i + 1 < length xs → set (set xs i x) (i + 1) y ≡ take i xs ++ (x ∷ (y ∷ drop (i + 2) xs))
set_two xs i x y h =
    let front = take_more_set xs i x (omega arith) in
    let next : suc (i + 1) ≡ i + 2 = omega arith in
    let back : drop (suc (i + 1)) (set xs i x) ≡ drop (i + 2) xs = drop-set-lt (suc (i + 1)) xs i x (omega arith) ∙ ap (λ k. drop k xs) next in
    set_split (set xs i x) (i + 1) y (rw length-set h) ∙ rw (front, back) (append_assoc (take i xs) (x ∷ []) (y ∷ drop (i + 2) xs))

pub block_rows : (rows : List Row) (b : ℕ) → b < tiny_blocks rows → BlockRows rows b (b * 2)
block_rows rows b h =
    let i = b * 2 in
    let first : i < tiny_blocks rows * 2 = omega arith in
    let second : (row : Row) → i + 1 < tiny_blocks (set rows i row) * 2 = λ row. rw length-set (omega arith) in
    record {
      is = refl;
      exists = h;
      within = omega arith;
      blocks = λ row next. same_blocks (set rows i row) (i + 1) (second row) next ∙ same_blocks rows i first row;
      spare = λ row next. same_spare (set rows i row) (i + 1) (second row) next ∙ same_spare rows i first row;
      written = λ row next e f. written (set rows i row) (i + 1) (second row) next ∙ rw (written rows i first row, e, f, lt-ltb b (tiny_blocks rows) h) (set_two (tiny_pages rows) i erased_page erased_page (rw length_pages (omega arith)));
    }
