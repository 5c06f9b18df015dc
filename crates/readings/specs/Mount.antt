-- What mount answers of a chip, over its pages.
use Rattle.std.specs.Prelude.{ℕ, zero, suc, ◌+◌, ◌-◌, ◌*◌, Bool, true, false, cond, not, ◌&&◌, ◌||◌, List, [], ◌∷◌, length, take, drop, nat_lt}
use Rattle.chip.specs.Pages.{Page}
use Rattle.readings.specs.Versions.{any, has}
use Rattle.readings.specs.Sayings.{Saying, nothing, version, register, bad, sayings}
use Rattle.readings.specs.Reading.{birth_of, reading}

-- C, the most versions that a store on B blocks of P pages keeps: all pages but a block, a register and one to write.
abbrev pub capacity : ℕ → ℕ → ℕ
capacity blocks per = (blocks - 1) * per - 2

-- A refusal, by its number and its values; number 0 is no refusal.
pub record Verdict : Type 0 where
  pub number : ℕ
  pub values : List ℕ

abbrev pub plain : ℕ → Verdict
plain n = record { number = n; values = [] }

-- The lowest page, from number k on, that is neither erased nor well formed, with its cause; else `otherwise`.
abbrev pub bad_first : Saying → ℕ → Verdict → Verdict
bad_first nothing k otherwise = otherwise
bad_first (version v) k otherwise = otherwise
bad_first (register r) k otherwise = otherwise
bad_first (bad cause) k otherwise = record { number = 5; values = k ∷ cause ∷ [] }

abbrev pub bad_from : ℕ → List Saying → Verdict → Verdict
bad_from k [] otherwise = otherwise
bad_from k (x ∷ xs) otherwise = bad_first x k (bad_from (k + 1) xs otherwise)

abbrev pub is_register : Saying → Bool
is_register nothing = false
is_register (version v) = false
is_register (register r) = true
is_register (bad cause) = false

abbrev pub is_nothing : Saying → Bool
is_nothing nothing = true
is_nothing (version v) = false
is_nothing (register r) = false
is_nothing (bad cause) = false

-- The births of the programmed pages.
abbrev pub with_birth : Bool → ℕ → List ℕ → List ℕ
with_birth true b bs = bs
with_birth false b bs = b ∷ bs

unfoldable pub births : List Saying → List ℕ
births [] = []
births (x ∷ xs) = with_birth (is_nothing x) (birth_of x) (births xs)

-- No number stands twice.
unfoldable pub distinct : List ℕ → Bool
distinct [] = true
distinct (n ∷ ns) = not (has n ns) && distinct ns

unfoldable pub all_nothing : List Saying → Bool
all_nothing [] = true
all_nothing (x ∷ xs) = is_nothing x && all_nothing xs

-- Some block of `per` pages is wholly erased.
unfoldable pub erased_block : ℕ → ℕ → List Saying → Bool
erased_block per zero xs = false
erased_block per (suc blocks) xs = all_nothing (take per xs) || erased_block per blocks (drop per xs)

-- The chip has what a store leaves.
abbrev pub is_store : ℕ → ℕ → List Saying → Bool
is_store blocks per xs =
    any is_register xs && (distinct (births xs) && (erased_block per blocks xs && not (nat_lt (capacity blocks per) (length (reading xs).versions))))

-- Blocks and pages that a store can be on.
abbrev pub size_fits : ℕ → ℕ → Bool
size_fits blocks per = not (nat_lt blocks 2) && not (nat_lt 2048 (blocks * per))

abbrev pub mount_verdict : ℕ → ℕ → List Page → Verdict
mount_verdict blocks per pages =
    cond (size_fits blocks per) (bad_from 0 (sayings pages) (cond (is_store blocks per (sayings pages)) (plain 0) (plain 6))) (plain 3)
