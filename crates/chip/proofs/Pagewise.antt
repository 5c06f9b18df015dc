-- A list of pages after a call, shown page by page, and an erased page, byte by byte.
use Rattle.std.proofs.Common.{◌≡◌, ℕ, zero, suc, ◌+◌, ◌-◌, ◌<◌, ◌≤◌, true, eqb, ◌≢◌, ◌⊎◌, ◌==◌, List, [], ◌++◌, length, get_or, take, drop, set, replicate, sym, refl, ap, ◌∙◌, inl, inr, ⊎_elim, arith, length-append, length-drop, length-set, length-take}
use lib.ListN.{length-replicate}
use Rattle.std.proofs.lemmas.Grind.{same_number_lists}
use Rattle.std.proofs.lemmas.List.{ext_get_or, get_or-set_same, get_or-set_other, get_or-replicate, places}
use Rattle.std.proofs.lemmas.List.Elements.{All-from_get_or}
use Rattle.std.proofs.lemmas.List.Sums.{AllPass-from_list_all, list_all-from_AllPass}
use Rattle.std.proofs.lemmas.Bool.{eq-eqb, eqb-true, cases_eq, cases_lt}
use Rattle.chip.specs.Pages.{Page, is_erased, erased_page}

-- One page is new, and the others stand.
pub set_pagewise : (pages after : List Page) (p : ℕ) (bytes : Page) → length after ≡ length pages → p < length pages → get_or after p [] ≡ bytes → ((q : ℕ) → q < length pages → q ≢ p → get_or after q [] ≡ get_or pages q []) → after ≡ set pages p bytes
set_pagewise pages after p bytes same h new stand =
    ext_get_or [] after (set pages p bytes) (same ∙ sym (length-set pages p bytes)) (λ q l. ⊎_elim (λ e. ap (λ i. get_or after i []) e ∙ new ∙ sym (get_or-set_same pages p bytes [] h) ∙ ap (λ i. get_or (set pages p bytes) i []) (sym e)) (λ n. stand q (omega arith) n ∙ sym (get_or-set_other pages p q bytes [] n)) (cases_eq q p))

-- The pages from the a-th to below the (a + k)-th are erased, and the others stand.
module _ (pages : List Page) (a k : ℕ) (h : a + k ≤ length pages) where
  abbrev pub wiped : List Page
  wiped = take a pages ++ (replicate k erased_page ++ drop (a + k) pages)

  length_wiped : length wiped ≡ length pages
  length_wiped = simp (length-append, length-replicate, length-take, length-drop) (omega arith)

  before : (q : ℕ) → q < a → get_or wiped q [] ≡ get_or pages q []
  before q b = grind (arith, places)

  within : (q : ℕ) → a ≤ q → q < a + k → get_or wiped q [] ≡ erased_page
  within q b d = grind (arith, places)

  behind : (q : ℕ) → a + k ≤ q → get_or wiped q [] ≡ get_or pages q []
  behind q d = grind (arith, places)

  pub erase_pagewise : (after : List Page) → length after ≡ length pages → ((q : ℕ) → a ≤ q → q < a + k → get_or after q [] ≡ erased_page) → ((q : ℕ) → q < length pages → (q < a) ⊎ (a + k ≤ q) → get_or after q [] ≡ get_or pages q []) → after ≡ wiped
  erase_pagewise after same new stand =
      ext_get_or [] after wiped (same ∙ sym length_wiped) (λ q l. ⊎_elim (λ b. stand q (omega arith) (inl b) ∙ sym (before q b)) (λ b. ⊎_elim (λ d. new q b d ∙ sym (within q b d)) (λ d. stand q (omega arith) (inr d) ∙ sym (behind q d)) (cases_lt q (a + k))) (cases_lt q a))

-- Bytes are erased if each is FF, and only then.
pub erased_bytewise : (xs : List ℕ) → ((k : ℕ) → k < length xs → get_or xs k 0 ≡ 255) → is_erased xs ≡ true
erased_bytewise xs h =
    list_all-from_AllPass (λ x. x == 255) xs (All-from_get_or (λ x. (x == 255) ≡ true) xs 0 (λ k l. eq-eqb (get_or xs k 0) 255 (h k l)))

pub erased_byte : (xs : List ℕ) → is_erased xs ≡ true → (k : ℕ) → k < length xs → get_or xs k 0 ≡ 255
erased_byte xs e k h = eqb-true (get_or xs k 0) 255 (AllPass-from_list_all (λ x. x == 255) xs e k 0 h)

-- 528 bytes FF are an erased page.
pub erased_page_bytewise : (xs : List ℕ) → length xs ≡ 528 → ((k : ℕ) → k < 528 → get_or xs k 0 ≡ 255) → xs ≡ erased_page
unfolding erased_page
erased_page_bytewise xs l h =
    same_number_lists xs (replicate 528 255) (l ∙ sym (length-replicate {A = ℕ} 528 255)) (λ k b. h k (omega arith) ∙ sym (get_or-replicate 528 k 255 0 (omega arith)))
