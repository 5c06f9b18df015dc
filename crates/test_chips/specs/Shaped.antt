-- Rows have the shape of a chip.
use Rattle.std.specs.Prelude.{◌≡◌, ◌*◌, List, [], ◌∷◌, map, length}
use Rattle.std.proofs.Common.{arith, length-take}
use Rattle.std.proofs.lemmas.List.{length-map}
use Rattle.std.specs.List.{AllByRecursion}
use Rattle.std.proofs.ByRecursion.{All-take}
use Rattle.chip.specs.Pages.{Shape}
use Rattle.test_chips.specs.declared.row.Row.{Row}
use Rattle.test_chips.specs.declared.tiny.Tiny.{Tiny}
use Rattle.test_chips.specs.Rows.{row_bytes, tiny_blocks, tiny_pages}

pub length_pages : (rows : List Row) → length (tiny_pages rows) ≡ tiny_blocks rows * 2
length_pages rows = simp (length-take, length-map) (omega arith)

full_rows : (rows : List Row) → AllByRecursion (λ p. length p ≡ 528) (map row_bytes rows)
full_rows [] = tt
full_rows (row ∷ rows) = (row.whole, full_rows rows)

pub tiny_shape : Shape {C = Tiny} 2 (λ c. tiny_blocks c.rows.now) (λ c. tiny_pages c.rows.now)
tiny_shape = record {
  least = omega arith;
  most = omega arith;
  few = λ c. omega arith;
  whole = λ c. length_pages c.rows.now;
  full = λ c. All-take (λ p. length p ≡ 528) (tiny_blocks c.rows.now * 2) (map row_bytes c.rows.now) (full_rows c.rows.now);
}
