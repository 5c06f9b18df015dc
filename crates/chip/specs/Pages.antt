-- What each call of a chip answers and leaves, over the list of the chip's pages.
use Rattle.std.specs.Prelude.{◌≡◌, ℕ, ◌+◌, ◌*◌, ◌/◌, ◌%◌, ◌≤◌, Bool, if◌then◌else◌, is_ok, List, [], ◌++◌, length, take, drop, replicate, Ok, Err, Result, ◌==◌, nat_lt, slice_index_or, slice_set}
use Rattle.std.specs.List.{AllByRecursion, list_all}
use Rattle.chip.specs.declared.BlockNumber.{BlockNumber}
use Rattle.chip.specs.declared.ChipFault.{ChipFault}
use Rattle.chip.specs.declared.ChipFault.TheVariants.{OutOfRange, BufferLength, NotErased}

-- A page, by its bytes.
abbrev pub Page : Type 0
Page = List ℕ

-- An erased page: each of its 528 bytes is FF. (Shut, since it computes to 528 elements.)
unfoldable pub erased_page : Page
erased_page = replicate 528 255

-- Whether each byte is FF.
abbrev pub is_erased : List ℕ → Bool
is_erased bytes = list_all (λ x. x == 255) bytes

-- The number of each refusal.
abbrev pub fault_number : ChipFault → ℕ
fault_number OutOfRange = 21
fault_number BufferLength = 22
fault_number NotErased = 23

abbrev pub Answer : Type 0
Answer = Result (Unit {0}) ChipFault

-- A block's number, where the chip has that block.
abbrev pub block_answer : ℕ → ℕ → Result ℕ ChipFault
block_answer blocks b = if nat_lt b blocks then Ok b else Err OutOfRange

abbrev pub erase_answer : ℕ → ℕ → Answer
erase_answer blocks b = if nat_lt b blocks then Ok tt else Err OutOfRange

module _ (pages : List Page) (p : ℕ) where
  -- The checks of a call with n bytes, in their order, and its answer where none of them refuses it.
  abbrev pub after_checks : {T : Type 0} → ℕ → Result T ChipFault → Result T ChipFault
  after_checks n answer = if nat_lt p (length pages) then (if n == 528 then answer else Err BufferLength) else Err OutOfRange

  -- The block of the page and its place there. `per` is the number of pages of a block.
  abbrev pub place_answer : ℕ → ℕ → Result (ℕ × ℕ) ChipFault
  place_answer per n = after_checks n (Ok (p / per, p % per))

  abbrev pub read_answer : ℕ → Answer
  read_answer n = after_checks n (Ok tt)

  abbrev pub buffer_read : List ℕ → List ℕ
  buffer_read buffer = if is_ok (read_answer (length buffer)) then slice_index_or pages p [] else buffer

  abbrev pub program_answer : ℕ → Answer
  program_answer n = after_checks n (if is_erased (slice_index_or pages p []) then Ok tt else Err NotErased)

  abbrev pub pages_programmed : List ℕ → List Page
  pages_programmed bytes = if is_ok (program_answer (length bytes)) then slice_set pages p bytes else pages

abbrev pub pages_erased : ℕ → ℕ → List Page → ℕ → List Page
pages_erased per blocks pages b =
    if is_ok (erase_answer blocks b) then take (b * per) pages ++ (replicate per erased_page ++ drop (b * per + per) pages) else pages

-- The block of a page, and the page's place in it.
abbrev pub split_of : ℕ → ℕ → BlockNumber × ℕ
split_of per page = (record { 0 = page / per }, page % per)

-- What holds of every chip: 2 to 64 pages to a block, at most 4096 blocks, and nothing but whole blocks of whole pages.
pub record Shape {C : Type 0} (per : ℕ) (blocks : C → ℕ) (pages : C → List Page) : Type 0 where
  pub least : 2 ≤ per
  pub most : per ≤ 64
  pub few : (c : C) → blocks c ≤ 4096
  pub whole : (c : C) → length (pages c) ≡ blocks c * per
  pub full : (c : C) → AllByRecursion (λ p. length p ≡ 528) (pages c)
