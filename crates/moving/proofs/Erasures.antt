-- A part of a list whose places all have one value: an erase of a block, page by page.
use Rattle.std.proofs.Common.{◌≡◌, ℕ, ◌+◌, ◌*◌, ◌<◌, ◌≤◌, List, [], ◌++◌, length, get_or, take, drop, replicate, refl, ap, ◌∙◌, inl, inr, arith, rules}
use Rattle.std.proofs.lemmas.List.{places}
use Rattle.std.proofs.lemmas.Bool.{lt-ltb}
use Rattle.chip.specs.Pages.{Page, erased_page, pages_erased}
use Rattle.moving.specs.Moves.{Outside}
use Rattle.moving.proofs.Places.{block_inside}

module _ {A : Type 0} (xs : List A) (x d : A) (low n : ℕ) (h : low + n ≤ length xs) where
  pub length_filled : length (take low xs ++ (replicate n x ++ drop (low + n) xs)) ≡ length xs
  length_filled = search (rules, places)

  pub filled_in : (i : ℕ) → i < n → get_or (take low xs ++ (replicate n x ++ drop (low + n) xs)) (low + i) d ≡ x
  filled_in i l = grind (arith, places)

  pub filled_out : (k : ℕ) → Outside low n k → get_or (take low xs ++ (replicate n x ++ drop (low + n) xs)) k d ≡ get_or xs k d
  filled_out k (inl l) = grind (arith, places)
  filled_out k (inr l) = grind (arith, places)

module _ (per blocks : ℕ) (pages : List Page) (b : ℕ) (whole : length pages ≡ blocks * per) (h : b < blocks) where
  inside : b * per + per ≤ length pages
  inside = block_inside per blocks b (length pages) whole h

  is : pages_erased per blocks pages b ≡ take (b * per) pages ++ (replicate per erased_page ++ drop (b * per + per) pages)
  is = rw (lt-ltb b blocks h) refl

  pub length_erased : length (pages_erased per blocks pages b) ≡ length pages
  length_erased = ap length is ∙ length_filled pages erased_page [] (b * per) per inside

  pub erased_in : (i : ℕ) → i < per → get_or (pages_erased per blocks pages b) (b * per + i) [] ≡ erased_page
  erased_in i l = ap (λ z. get_or z (b * per + i) []) is ∙ filled_in pages erased_page [] (b * per) per inside i l

  pub erased_out : (k : ℕ) → Outside (b * per) per k → get_or (pages_erased per blocks pages b) k [] ≡ get_or pages k []
  erased_out k o = ap (λ z. get_or z k []) is ∙ filled_out pages erased_page [] (b * per) per inside k o
