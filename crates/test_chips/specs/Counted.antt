-- A chip that counts its calls has the shape of the chip below.
use Rattle.std.specs.Prelude.{ℕ, List}
use Rattle.chip.specs.Pages.{Page, Shape}
use Rattle.test_chips.specs.declared.counting.Counting.{Counting}

pub counting_shape : {C : Type 0} {per : ℕ} {blocks : C → ℕ} {pages : C → List Page} → Shape per blocks pages → Shape {C = Counting C} per (λ c. blocks c.below) (λ c. pages c.below)
counting_shape shape = record {
  least = shape.least;
  most = shape.most;
  few = λ c. shape.few c.below;
  whole = λ c. shape.whole c.below;
  full = λ c. shape.full c.below;
}
