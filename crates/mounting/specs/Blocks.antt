-- A wholly erased block.
use Rattle.std.specs.Prelude.{◌≡◌, ℕ, zero, suc, ◌*◌, ◌<◌, true, List, [], ◌∷◌, take, drop}
use Rattle.readings.specs.Sayings.{Saying}
use Rattle.readings.specs.Mount.{all_nothing, erased_block}

-- The pages of each block, `per` to a block.
abbrev pub blocks_of : {X : Type 0} → ℕ → ℕ → List X → List (List X)
blocks_of per zero xs = []
blocks_of per (suc blocks) xs = take per xs ∷ blocks_of per blocks (drop per xs)

-- Block b of `blocks`, with `per` pages each, says nothing.
pub record ErasedAt (per blocks : ℕ) (xs : List Saying) (b : ℕ) : Type 0 where
  pub some : erased_block per blocks xs ≡ true
  pub stands : b < blocks
  pub silent : all_nothing (take per (drop (b * per) xs)) ≡ true
