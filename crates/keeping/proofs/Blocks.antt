-- An erased block.
use Rattle.std.proofs.Common.{◌≡◌, ℕ, zero, suc, ◌+◌, ◌*◌, ◌<◌, true, List, [], ◌∷◌, length, get_or, take, drop, refl, ap, ◌∙◌, inl, inr, suc-mul, zero-mul, arith}
use Rattle.std.proofs.lemmas.List.{get_or-map, get_or_past, get_or-drop, length-map}
use Rattle.std.proofs.lemmas.Bool.{and_from, or_left, or_right, cases_lt}
use Rattle.chip.specs.Pages.{Page, is_erased}
use Rattle.readings.specs.Sayings.{Saying, nothing, said, sayings}
use Rattle.readings.specs.Mount.{is_nothing, all_nothing, erased_block}
use Rattle.moving.proofs.Says.{said_erased}

all_nothing_lem : (n : ℕ) (xs : List Saying) → ((k : ℕ) → k < n → get_or xs k nothing ≡ nothing) → all_nothing (take n xs) ≡ true
unfolding all_nothing
all_nothing_lem zero xs h = refl
all_nothing_lem (suc n) [] h = refl
all_nothing_lem (suc n) (x ∷ xs) h = and_from (is_nothing x) (all_nothing (take n xs)) (ap is_nothing (h 0 (omega arith))) (all_nothing_lem n xs (λ k l. h (suc k) (omega arith)))

erased_at : (per blocks b : ℕ) (xs : List Saying) → b < blocks → ((k : ℕ) → k < per → get_or xs (b * per + k) nothing ≡ nothing) → erased_block per blocks xs ≡ true
unfolding erased_block
erased_at per zero b xs h e = absurd (omega arith)
erased_at per (suc blocks) zero xs h e =
    or_left (all_nothing (take per xs)) (erased_block per blocks (drop per xs))
    (all_nothing_lem per xs (λ k l. ap (λ i. get_or xs i nothing) (omega (arith, zero-mul per)) ∙ e k l))
erased_at per (suc blocks) (suc b) xs h e =
    or_right (all_nothing (take per xs)) (erased_block per blocks (drop per xs))
    (erased_at per blocks b (drop per xs) (omega arith)
    (λ k l. get_or-drop per xs (b * per + k) nothing ∙ ap (λ i. get_or xs i nothing) (omega (arith, suc-mul b per)) ∙ e k l))

pub erased_said : (pages : List Page) (k : ℕ) → is_erased (get_or pages k []) ≡ true → get_or (sayings pages) k nothing ≡ nothing
erased_said pages k e = elim (cases_lt k (length pages)) [
  | inl l ↦ get_or-map said pages k [] nothing l ∙ said_erased (get_or pages k []) e
  | inr l ↦ get_or_past (sayings pages) k nothing (let q = length-map pages said in omega arith)
]

pub block_erased : (per blocks b : ℕ) (pages : List Page) → b < blocks → ((k : ℕ) → k < per → is_erased (get_or pages (b * per + k) []) ≡ true) → erased_block per blocks (sayings pages) ≡ true
block_erased per blocks b pages h e = erased_at per blocks b (sayings pages) h (λ k l. erased_said pages (b * per + k) (e k l))
