-- The pairs of a register, one after the other.
use Rattle.std.proofs.Common.{◌≡◌, ℕ, ◌+◌, ◌*◌, ◌/◌, ◌%◌, ◌≤◌, true, ◌&&◌, eqb, leb, List, ◌∷◌, Some, None, arith}
use Rattle.std.proofs.lemmas.Bool.{and_parts, eqb-true, leb-true, cond_both}
use Rattle.layout.specs.Bytes.{u16_at}
use Rattle.layout.specs.Parts.{unit_of, most_of, fits, parts_end}
use Rattle.layout.specs.declared.parts.PartKind.{PartKind}
use Rattle.layout.specs.declared.parts.PartKind.TheVariants as kind

-- what the first pair gives, where the parts end at e
pub record First (k : PartKind) (ks : List PartKind) (p : List ℕ) (i at e : ℕ) : Type 0 where
  pub starts : u16_at p i ≡ at
  pub can : fits k (u16_at p (i + 2)) ≡ true
  pub rest : parts_end ks p (i + 4) (at + u16_at p (i + 2)) ≡ Some e

pub first_pair : (k : PartKind) (ks : List PartKind) (p : List ℕ) (i at e : ℕ) → parts_end (k ∷ ks) p i at ≡ Some e → First k ks p i at e
first_pair k ks p i at e =
    cond_both (eqb (u16_at p i) at && fits k (u16_at p (i + 2))) (parts_end ks p (i + 4) (at + u16_at p (i + 2))) None (λ o. o ≡ Some e → First k ks p i at e)
    (λ t h. let both = and_parts (eqb (u16_at p i) at) (fits k (u16_at p (i + 2))) t in record { starts = eqb-true (u16_at p i) at both.0; can = both.1; rest = h })
    (λ f h. let z : ◌≡◌ {A = ℕ} 0 1 = cc in absurd (omega arith))

-- a part that can have n bytes has at most as many as its greatest number of units
pub at_most : (k : PartKind) (n : ℕ) → fits k n ≡ true → n ≤ unit_of k * most_of k
at_most kind.Held n h = let both = and_parts (eqb (n % 4) 0) (leb (n / 4) 8) h in omega (arith, eqb-true (n % 4) 0 both.0, leb-true (n / 4) 8 both.1)
at_most kind.Label n h = let both = and_parts (eqb (n % 1) 0) (leb (n / 1) 32) h in omega (arith, leb-true (n / 1) 32 both.1)
