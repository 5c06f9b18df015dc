-- What the types of this crate hold, as numbers and lists.
use Rattle.std.specs.Prelude.{ℕ, cond, List, length, take, Some, None, Option, nat_le}
use Rattle.limits.specs.Numbers.{rising}
use Rattle.limits.specs.declared.types.Bounded.{Bounded}
use Rattle.limits.specs.declared.types.Register.{Register}

abbrev pub items_of : {A : Type 0} {most : ℕ} → Bounded A most → List A
items_of b = take b.len b.items

abbrev pub held_of : Bounded ℕ 8 → List ℕ
held_of = items_of

abbrev pub label_of : Bounded ℕ 32 → List ℕ
label_of = items_of

-- A list, if it has at most `most` elements.
abbrev pub up_to : {A : Type 0} → ℕ → List A → Option (List A)
up_to most xs = cond (nat_le (length xs) most) (Some xs) None

-- What a register holds: its birth, its held numbers and its label.
pub record RegisterValues : Type 0 where
  pub birth : ℕ
  pub held : List ℕ
  pub label : List ℕ

abbrev pub register_values : Register → RegisterValues
register_values r = record { birth = r.birth.number; held = held_of r.held; label = label_of r.label }

-- The register of a birth, held numbers and a label, if the held numbers rise and none is above the birth.
abbrev pub register_from : ℕ → List ℕ → List ℕ → Option RegisterValues
register_from birth held label = cond (rising 0 birth held) (Some (record { birth = birth; held = held; label = label })) None
