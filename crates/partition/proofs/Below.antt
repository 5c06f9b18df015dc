-- What a call on the chip below does to a part of its pages, and to those outside.
use Rattle.std.proofs.Common.{◌≡◌, ℕ, ◌+◌, ◌-◌, ◌*◌, ◌/◌, ◌%◌, ◌<◌, ◌≤◌, min, is_ok, ltb, List, [], ◌++◌, length, get_or, take, drop, set, replicate, sym, refl, ap, ◌∙◌, ⊎_elim, mul-le-mul_right, add-mul, arith, length-drop, length-take, rules}
use lib.ListN.{length-replicate}
use lib.Seq.{take-set-lt}
use Rattle.std.proofs.lemmas.Nat.{div-add-mod', mod_below}
use Rattle.std.proofs.lemmas.List.{get_or-take, get_or-drop, take-set-le, drop-set-lt, drop-set-add, same_lists, places}
use Rattle.std.proofs.lemmas.Bool.{lt-ltb, le-ltb, cases_lt, cond_both}
use Rattle.std.proofs.lemmas.Bool.Decides.{nat_tests}
use Rattle.chip.specs.Pages.{Page, program_answer, pages_programmed, pages_erased, erased_page}
use Rattle.partition.specs.Part.{existing, Changed, PageBelow, BlockBelow}
use Rattle.partition.specs.Shaped.{existing_pages}

-- The part is the n pages from the m-th on.
module _ (m n : ℕ) (l : List Page) where
  abbrev part : List Page → List Page
  part z = take n (drop m z)

  length_part : length (part l) ≡ min n (length l - m)
  length_part = simp (length-take, length-drop)

  -- It is the same where its bounds are cut to what exists.
  pub cut_part : take (min n (length l - m)) (drop (min m (length l)) l) ≡ part l
  cut_part = same_lists _ _ (search (rules, places)) (λ j d h. grind (arith, places))

  unchanged : Changed m n l l (part l)
  unchanged = record { before = refl; inside = refl; behind = refl }

  module _ (p at : ℕ) (h : p < n) (e : at ≡ m + p) where
    same_test : ltb at (length l) ≡ ltb p (length (part l))
    same_test = let k = length_part in grind (arith, nat_tests)

    same_page : get_or l at [] ≡ get_or (part l) p []
    same_page = ap (λ i. get_or l i []) e ∙ sym (get_or-take n (drop m l) p [] h ∙ get_or-drop m l p [])

    set_page : (y : Page) → Changed m n l (set l at y) (set (part l) p y)
    set_page y = record {
      before = take-set-le m l at y (omega arith);
      inside = ap (λ i. part (set l i y)) e ∙ ap (take n) (drop-set-add m l p y) ∙ take-set-lt n (drop m l) p y h;
      behind = drop-set-lt (m + n) l at y (omega arith);
    }

    program_page : (bytes : List ℕ) → Changed m n l (pages_programmed l at bytes) (pages_programmed (part l) p bytes)
    program_page bytes =
        let answer : program_answer l at (length bytes) ≡ program_answer (part l) p (length bytes) = rw (same_test, same_page) refl in
        cond_both (is_ok (program_answer l at (length bytes))) (set l at bytes) l (λ z. Changed m n l z (pages_programmed (part l) p bytes)) (λ t. rw (← answer, t) (set_page bytes)) (λ t. rw (← answer, t) unchanged)

    pub page_below : PageBelow m n l p at
    page_below = record { is = e; exists = same_test; holds = same_page; programmed = program_page }

  -- The k pages from the a-th of the part on are made ys.
  splice : (a k : ℕ) (ys : List Page) → length ys ≡ k → 0 < k → a + k ≤ length (part l) → Changed m n l (take (m + a) l ++ (ys ++ drop (m + a + k) l)) (take a (part l) ++ (ys ++ drop (a + k) (part l)))
  splice a k ys long some within = record {
    before = same_lists _ _ (search (rules, places)) (λ j d h. grind (arith, places));
    inside = same_lists _ _ (search (rules, places)) (λ j d h. grind (arith, places));
    behind = same_lists _ _ (search (rules, places)) (λ j d h. grind (arith, places));
  }

-- A page is in the part where its block is, at the same place of the block below.
pub page_in_block : (per first count : ℕ) (l : List Page) (page block place at : ℕ) → 0 < per → block ≡ page / per → place ≡ page % per → block < count → at ≡ first + block → PageBelow (first * per) (count * per) l page (at * per + place)
page_in_block per first count l page block place at some d r h e =
    let whole = div-add-mod' page per in
    let less = mul-le-mul_right {m = page / per + 1} {n = count} per (omega arith) in
    let moved : at * per ≡ (first + page / per) * per = ap (λ i. i * per) (omega arith) in
    page_below (first * per) (count * per) l page (at * per + place) (omega (arith, add-mul (page / per) 1 per, mod_below page per some)) (omega (arith, add-mul first (page / per) per))

-- Without its block there is no page.
pub page_lacking : (per n page block : ℕ) {blocks : ℕ} → n ≡ blocks * per → block ≡ page / per → blocks ≤ block → n ≤ page
page_lacking per n page block {blocks} whole d h =
    omega (arith, div-add-mod' page per, mul-le-mul_right {m = blocks} {n = page / per} per (omega arith))

module _ (per first count blocks : ℕ) (l : List Page) (some : 0 < per) (whole : length l ≡ blocks * per) (b at : ℕ) (h : b < count) (e : at ≡ first + b) (small : at < 4096) where
  abbrev m : ℕ
  m = first * per

  abbrev n : ℕ
  n = count * per

  abbrev nb : ℕ
  nb = existing first count blocks

  abbrev Erases : Type 0
  Erases = Changed m n l (pages_erased per blocks l at) (pages_erased per nb (part m n l l) b)

  erase_block : at < blocks → Erases
  erase_block i =
      let t : b < nb = omega arith in
      let place : at * per ≡ m + b * per = ap (λ k. k * per) e ∙ add-mul first b per in
      let less = mul-le-mul_right {m = b + 1} {n = nb} per (omega arith) in
      let room : b * per + per ≤ length (part m n l l) = omega (arith, length_part m n l, existing_pages per first count blocks, add-mul b 1 per) in
      rw (lt-ltb at blocks i, lt-ltb b nb t, place) (splice m n l (b * per) per (replicate per erased_page) (length-replicate per erased_page) some room)

  erase_none : blocks ≤ at → Erases
  erase_none i = let t : nb ≤ b = omega arith in rw (le-ltb at blocks i, le-ltb b nb t) (unchanged m n l)

  pub block_below : BlockBelow per first count blocks l b at
  block_below = record {
    within = h;
    is = e;
    small = small;
    exists = grind (arith, nat_tests);
    erased = ⊎_elim erase_block erase_none (cases_lt at blocks);
  }
