-- A partition has the shape of a chip.
use Rattle.std.specs.Prelude.{◌≡◌, ℕ, ◌-◌, ◌*◌, min, List, length, drop}
use Rattle.std.proofs.Common.{⊎_elim, sym, ap, mul_comm, mul-le-mul_right, arith, length-take, length-drop}
use Rattle.std.proofs.Math.Nat.{mul-sub, min-eq_left, min-eq_right}
use Rattle.std.proofs.ByRecursion.{All-take, All-drop}
use Rattle.std.proofs.lemmas.Bool.{cases_lt}
use Rattle.chip.specs.Pages.{Page, Shape}
use Rattle.partition.specs.declared.Partition.{Partition}
use Rattle.partition.specs.Part.{existing, part_blocks, part_pages}

pub min_mul : (a b k : ℕ) → min a b * k ≡ min (a * k) (b * k)
min_mul a b k =
    ⊎_elim (λ h. let e = ap (λ n. n * k) (min-eq_left {n = a} {m = b} (omega arith)) in let l = mul-le-mul_right {m = a} {n = b} k (omega arith) in omega arith) (λ h. let e = ap (λ n. n * k) (min-eq_right {n = b} {m = a} h) in let l = mul-le-mul_right {m = b} {n = a} k h in omega arith) (cases_lt a b)

-- The blocks that exist, in pages.
pub existing_pages : (per first count blocks : ℕ) → existing first count blocks * per ≡ min (count * per) (blocks * per - first * per)
existing_pages per first count blocks =
    let rest = mul-sub per blocks first in
    omega (arith, min_mul count (blocks - first) per, mul_comm (blocks - first) per, mul_comm blocks per, mul_comm first per)

module _ {C : Type 0} {per : ℕ} {blocks : C → ℕ} {pages : C → List Page} (shape : Shape per blocks pages) where
  pub part_shape : Shape {C = Partition C} per (part_blocks blocks) (part_pages per pages)
  part_shape = record {
    least = shape.least;
    most = shape.most;
    few = λ p. omega (arith, shape.few p.below);
    whole = λ p. simp (length-take, length-drop, shape.whole p.below) (sym (existing_pages per p.first p.count (blocks p.below)));
    full = λ p. let P : Page → Type 0 = λ q. length q ≡ 528 in All-take P (p.count * per) (drop (p.first * per) (pages p.below)) (All-drop P (p.first * per) (pages p.below) (shape.full p.below));
  }
