-- A loop that appends a piece for each element of a list.
use Rattle.std.proofs.Common.{◌≡◌, ℕ, ◌+◌, ◌<◌, ◌≤◌, List, ◌++◌, length, get_or, take, sym, ap, ◌∙◌}
use Rattle.std.specs.List.{flat_map}
use Rattle.std.proofs.lemmas.List.{flat_map_more, take_more, take_all}

module _ {X : Type 0} (f : X → List ℕ) (start : List ℕ) (xs : List X) where
  pub joins_more : (i : ℕ) (d : X) {before after : List ℕ} → i < length xs → before ≡ start ++ flat_map f (take i xs) → after ≡ before ++ f (get_or xs i d) → after ≡ start ++ flat_map f (take (i + 1) xs)
  joins_more i d h was now =
      now ∙ ap (λ bs. bs ++ f (get_or xs i d)) was ∙ flat_map_more f start (take i xs) (get_or xs i d) ∙ ap (λ ys. start ++ flat_map f ys) (sym (take_more xs i d h))

  pub joins_all : (i : ℕ) {after : List ℕ} → length xs ≤ i → after ≡ start ++ flat_map f (take i xs) → after ≡ start ++ flat_map f xs
  joins_all i h now = now ∙ ap (λ ys. start ++ flat_map f ys) (take_all i xs h)
