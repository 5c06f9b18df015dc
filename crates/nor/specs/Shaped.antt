-- A NOR chip has the shape of a chip.
use Rattle.std.specs.Prelude.{◌≡◌, ℕ, ◌*◌, List, [], ◌∷◌, map, length}
use Rattle.std.proofs.Common.{arith}
use Rattle.std.specs.List.{range_with_len, AllByRecursion}
use Rattle.std.proofs.lemmas.List.FromFn.{length-map-range_with_len}
use Rattle.chip.specs.Pages.{Shape}
use Rattle.nor.specs.Image.{nor_blocks, nor_page, nor_pages, page_byte}
use Rattle.nor.specs.declared.Nor.{Nor}

pub length_page : (ws : List ℕ) (n : ℕ) → length (nor_page ws n) ≡ 528
unfolding nor_page
length_page ws n = length-map-range_with_len (page_byte ws n) 0 528

pub length_nor : (ws : List ℕ) → length (nor_pages ws) ≡ nor_blocks ws * 8
unfolding nor_pages
length_nor ws = length-map-range_with_len (nor_page ws) 0 (nor_blocks ws * 8)

full_pages : (ws ns : List ℕ) → AllByRecursion (λ p. length p ≡ 528) (map (nor_page ws) ns)
full_pages ws [] = tt
full_pages ws (n ∷ ns) = (length_page ws n, full_pages ws ns)

pub full_nor : (ws : List ℕ) → AllByRecursion (λ p. length p ≡ 528) (nor_pages ws)
unfolding nor_pages
full_nor ws = full_pages ws (range_with_len 0 (nor_blocks ws * 8))

pub nor_shape : Shape {C = Nor} 8 (λ c. nor_blocks c.image.now) (λ c. nor_pages c.image.now)
nor_shape = record {
  least = omega arith;
  most = omega arith;
  few = λ c. omega arith;
  whole = λ c. length_nor c.image.now;
  full = λ c. full_nor c.image.now;
}
