-- The parts of a register: first a pair of offset and length for each, then the parts, each where the one before ends.
use Rattle.std.specs.Prelude.{◌≡◌, ℕ, ◌+◌, ◌*◌, ◌/◌, ◌%◌, Bool, cond, ◌&&◌, List, [], ◌∷◌, length, take, drop, Some, None, Option, ◌==◌, nat_le}
use Rattle.layout.specs.Bytes.{u16_at}
use Rattle.layout.specs.declared.parts.PartKind.{PartKind}
use Rattle.layout.specs.declared.parts.PartKind.TheVariants as kind
use Rattle.layout.specs.declared.parts.RegisterPart.{RegisterPart}
use Rattle.layout.specs.declared.parts.RegisterPart.TheVariants as part

-- A part is a row of units: the bytes of a unit, and how many units there are at most.
abbrev pub unit_of : PartKind → ℕ
unit_of kind.Held = 4
unit_of kind.Label = 1

abbrev pub most_of : PartKind → ℕ
most_of kind.Held = 8
most_of kind.Label = 32

-- Whether a part can have n bytes.
abbrev pub fits : PartKind → ℕ → Bool
fits k n = n % unit_of k == 0 && nat_le (n / unit_of k) (most_of k)

-- The parts of a register, in the order of their pairs.
abbrev pub register_kinds : List PartKind
register_kinds = kind.Held ∷ kind.Label ∷ []

-- Where the parts end, if the pair at i gives a part that starts at `at`, the next one a part that starts where that one ends, and so on, each of a length that it can have.
abbrev pub parts_end : List PartKind → List ℕ → ℕ → ℕ → Option ℕ
parts_end [] p i at = Some at
parts_end (k ∷ ks) p i at =
    cond (u16_at p i == at && fits k (u16_at p (i + 2))) (parts_end ks p (i + 4) (at + u16_at p (i + 2))) None

-- Where the parts of a page end: the first starts where the pairs end.
abbrev pub end_of : List PartKind → List ℕ → Option ℕ
end_of ks p = parts_end ks p 0 (4 * length ks)

-- The bytes that pair n gives.
abbrev pub part_at : List ℕ → ℕ → List ℕ
part_at p n = take (u16_at p (4 * n + 2)) (drop (u16_at p (4 * n)) p)

-- What a part that is handed out holds.
abbrev pub kind_of : RegisterPart → PartKind
kind_of (part.Held o b) = kind.Held
kind_of (part.Label o b) = kind.Label

abbrev pub offset_of : RegisterPart → ℕ
offset_of (part.Held o b) = o
offset_of (part.Label o b) = o

abbrev pub bytes_of : RegisterPart → List ℕ
bytes_of (part.Held o b) = b.now
bytes_of (part.Label o b) = b.now

-- It is the part of kind k that pair n of the page gives.
pub record IsPart (p : List ℕ) (n : ℕ) (k : PartKind) (r : RegisterPart) : Type 0 where
  pub kind : kind_of r ≡ k
  pub offset : offset_of r ≡ u16_at p (4 * n)
  pub bytes : bytes_of r ≡ part_at p n
