-- Numbers that a loop writes one after the other: what is written and what is left give all.
use Rattle.std.proofs.Common.{◌≡◌, ℕ, ◌+◌, ◌<◌, ◌≤◌, List, [], ◌∷◌, ◌++◌, length, get_or, take, drop, set, Some, None, Option, sym, refl, ap, ◌∙◌}
use Rattle.std.specs.List.{filter_map}
use Rattle.std.proofs.lemmas.List.{at_drop_more, at_drop_all, append_assoc, append-nil, take_more_set}

abbrev pub Filled : {X : Type 0} → (X → Option ℕ) → List X → List ℕ → ℕ → ℕ → Type 0
Filled f xs out n i = take n out ++ filter_map f (drop i xs) ≡ filter_map f xs

module _ {X : Type 0} (f : X → Option ℕ) (xs : List X) (out : List ℕ) (n i : ℕ) where
  pub filled_none : (t : X) → i < length xs → t ≡ get_or xs i t → None ≡ f t → Filled f xs out n i → Filled f xs out n (i + 1)
  filled_none t h at e g = ap (λ l. take n out ++ l) (sym (at_drop_more (filter_map f) xs i t h ∙ rw (← at, ← e) refl)) ∙ g

  pub filled_some : (t : X) → i < length xs → t ≡ get_or xs i t → (x : ℕ) → n < length out → Some x ≡ f t → Filled f xs out n i → Filled f xs (set out n x) (n + 1) (i + 1)
  filled_some t h at x room e g =
      ap (λ l. l ++ filter_map f (drop (i + 1) xs)) (take_more_set out n x room)
      ∙ append_assoc (take n out) (x ∷ []) (filter_map f (drop (i + 1) xs))
      ∙ ap (λ l. take n out ++ l) (sym (at_drop_more (filter_map f) xs i t h ∙ rw (← at, ← e) refl)) ∙ g

  pub filled_all : length xs ≤ i → Filled f xs out n i → take n out ≡ filter_map f xs
  filled_all h g = sym (append-nil (take n out)) ∙ ap (λ l. take n out ++ l) (sym (at_drop_all (filter_map f) xs i h)) ∙ g
