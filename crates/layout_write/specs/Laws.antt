-- Reading and writing undo each other.
use Rattle.std.specs.Prelude.{◌≡◌, ℕ, ◌<◌, ◌≤◌, true, List, length, take}
use Rattle.std.specs.List.{AllByRecursion}
use Rattle.limits.specs.Numbers.{rising}
use Rattle.layout.specs.Page.{Meaning, Erased, Data, Deletion, Register, Bad, meaning}
use Rattle.layout_write.specs.Written.{data_page, deletion_page, register_page}

-- What was written is read again, within the limits.
pub record ReadAgain : Type 0 where
  pub data_page_means : (sector birth : ℕ) (bytes : List ℕ) → sector ≤ 2047 → 1 ≤ birth → birth ≤ 4294967294 → length bytes ≡ 512 → meaning (data_page sector birth bytes) ≡ Data sector birth
  pub data_bytes : (sector birth : ℕ) (bytes : List ℕ) → length bytes ≡ 512 → take 512 (data_page sector birth bytes) ≡ bytes
  pub deletion : (sector birth : ℕ) → sector ≤ 2047 → 1 ≤ birth → birth ≤ 4294967294 → meaning (deletion_page sector birth) ≡ Deletion sector birth
  pub register : (birth : ℕ) (held label : List ℕ) → 1 ≤ birth → birth ≤ 4294967294 → length held ≤ 8 → rising 0 birth held ≡ true → length label ≤ 32 → meaning (register_page birth held label) ≡ Register birth held label

-- The page p is what is written for its meaning.
abbrev pub Rewritten : List ℕ → Meaning → Type 0
Rewritten p Erased = Unit {0}
Rewritten p (Data sector birth) = p ≡ data_page sector birth (take 512 p)
Rewritten p (Deletion sector birth) = p ≡ deletion_page sector birth
Rewritten p (Register birth held label) = p ≡ register_page birth held label
Rewritten p (Bad cause) = Unit {0}

-- A page that is neither erased nor bad is, byte for byte, what is written for its meaning.
abbrev pub WrittenAgain : Type 0
WrittenAgain = (p : List ℕ) → length p ≡ 528 → AllByRecursion (λ x. x < 256) p → Rewritten p (meaning p)
