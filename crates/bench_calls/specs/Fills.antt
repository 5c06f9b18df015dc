-- Sectors that are filled with one byte.
use Rattle.std.specs.Prelude.{ℕ, zero, suc, List, [], ◌∷◌, ◌++◌, replicate}

-- (Shut, since it computes to 512 elements.)
unfoldable pub filled_with : ℕ → List ℕ
filled_with byte = replicate 512 byte

-- The sectors filled with the bytes below n, in their order.
unfoldable pub fills_to : ℕ → List (List ℕ)
fills_to zero = []
fills_to (suc n) = fills_to n ++ (filled_with n ∷ [])
