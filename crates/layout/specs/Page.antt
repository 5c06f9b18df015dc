-- What a page means, or why it is bad.
use Rattle.std.specs.Prelude.{◌≡◌, ℕ, ◌≤◌, Bool, true, cond, ◌&&◌, ◌||◌, List, length, take, drop, Some, None, Ok, Err, Option, Result, ◌==◌, nat_le, slice_index}
use Rattle.chip.specs.Pages.{is_erased}
use Rattle.limits.specs.Numbers.{rising}
use Rattle.limits.specs.Values.{held_of, label_of}
use Rattle.layout.specs.Bytes.{all_zero, u16_at, u32_at, words}
use Rattle.layout.specs.Parts.{register_kinds, end_of, part_at, bytes_of, IsPart}
use Rattle.layout.specs.declared.parts.PartKind.TheVariants as kind
use Rattle.layout.specs.declared.pages.Cause.{Cause}
use Rattle.layout.specs.declared.pages.Cause.TheVariants as cause
use Rattle.layout.specs.declared.pages.RegisterFault.{RegisterFault}
use Rattle.layout.specs.declared.pages.RegisterFault.TheVariants as fault
use Rattle.layout.specs.declared.pages.Tag.{Tag}
use Rattle.layout.specs.declared.pages.Tag.TheVariants as tag
use Rattle.layout.specs.declared.parts.RegisterParts.{RegisterParts}
use Rattle.layout.specs.declared.pages.Page.{Page}
use Rattle.layout.specs.declared.pages.Page.TheVariants as page

pub data Meaning : Type 0 where
  Erased : Meaning
  Data : (sector birth : ℕ) → Meaning
  Deletion : (sector birth : ℕ) → Meaning
  Register : (birth : ℕ) (held label : List ℕ) → Meaning
  Bad : (cause : ℕ) → Meaning

-- Kind, sector and birth, from the tag.
abbrev pub tag_at : List ℕ → ℕ × ℕ × ℕ
tag_at p = (slice_index p 512, u16_at p 514, u32_at p 516)

-- Whether a programmed page can have this kind, sector and birth.
abbrev pub go_together : ℕ → ℕ → ℕ → Bool
go_together kind sector birth =
    nat_le 1 birth && (nat_le birth 4294967294 && cond (kind == 3) (sector == 65535) (nat_le sector 2047 && (kind == 1 || kind == 2)))

abbrev pub tag_sound : List ℕ → Bool
tag_sound p = slice_index p 513 == 0 && (all_zero (drop 520 p) && go_together (slice_index p 512) (u16_at p 514) (u32_at p 516))

-- What the data of a register of birth b mean; the parts end at `end`, if they lie as they must.
abbrev pub register_with_end : Option ℕ → ℕ → List ℕ → Meaning
register_with_end None b p = Bad 32
register_with_end (Some end) b p =
    cond (rising 0 b (words (part_at p 0))) (cond (all_zero (drop end (take 512 p))) (Register b (words (part_at p 0)) (part_at p 1)) (Bad 34)) (Bad 33)

abbrev pub register_meaning : ℕ → List ℕ → Meaning
register_meaning b p = register_with_end (end_of register_kinds p) b p

-- The tag of a page, if it is sound; an erased page has the kind 0.
abbrev pub tag_read : List ℕ → Option (ℕ × ℕ × ℕ)
tag_read p = cond (is_erased p) (Some (0, 0, 0)) (cond (tag_sound p) (Some (tag_at p)) None)

-- What a page with this tag means.
abbrev pub tagged_meaning : Option (ℕ × ℕ × ℕ) → List ℕ → Meaning
tagged_meaning None p = Bad 30
tagged_meaning (Some t) p =
    cond (t.0 == 0) Erased
    (cond (t.0 == 1) (Data t.1 t.2)
    (cond (t.0 == 2) (cond (all_zero (take 512 p)) (Deletion t.1 t.2) (Bad 31))
    (register_meaning t.2 p)))

-- What a page of 528 bytes means.
abbrev pub meaning : List ℕ → Meaning
meaning p = tagged_meaning (tag_read p) p

-- The number of each cause.
abbrev pub cause_number : Cause → ℕ
cause_number cause.Tag = 30
cause_number cause.Deletion = 31
cause_number cause.Pairs = 32
cause_number cause.Held = 33
cause_number cause.Tail = 34

abbrev pub fault_number : RegisterFault → ℕ
fault_number fault.Pairs = 32
fault_number fault.Held = 33
fault_number fault.Tail = 34

-- What the code's answers mean.
abbrev pub register_answer : ℕ → Result RegisterParts RegisterFault → Meaning
register_answer b (Ok x) = Register b (words (bytes_of x.held)) (bytes_of x.label)
register_answer b (Err e) = Bad (fault_number e)

abbrev pub page_meaning : Page → Meaning
page_meaning page.Erased = Erased
page_meaning (page.Data v) = Data v.sector.number v.birth.number
page_meaning (page.Deletion v) = Deletion v.sector.number v.birth.number
page_meaning (page.Register r) = Register r.birth.number (held_of r.held) (label_of r.label)

abbrev pub answer : Result Page Cause → Meaning
answer (Ok x) = page_meaning x
answer (Err e) = Bad (cause_number e)

-- The parts that are handed out are those of the page p, and within their limits.
pub record PartsOf (b : ℕ) (p : List ℕ) (x : RegisterParts) : Type 0 where
  pub held : IsPart p 0 kind.Held x.held
  pub label : IsPart p 1 kind.Label x.label
  pub few : length (bytes_of x.held) ≤ 32
  pub known : rising 0 b (words (bytes_of x.held)) ≡ true
  pub short : length (bytes_of x.label) ≤ 32

-- Kind, sector and birth: 0 is the kind of an erased page, and a bad page has its cause for a kind.
abbrev pub summary : Meaning → ℕ × ℕ × ℕ
summary Erased = (0, 0, 0)
summary (Data s b) = (1, s, b)
summary (Deletion s b) = (2, s, b)
summary (Register b held label) = (3, 65535, b)
summary (Bad c) = (c, 0, 0)

abbrev pub tag_of : Tag → ℕ × ℕ × ℕ
tag_of tag.Erased = (0, 0, 0)
tag_of (tag.Data v) = (1, v.sector.number, v.birth.number)
tag_of (tag.Deletion v) = (2, v.sector.number, v.birth.number)
tag_of (tag.Register b) = (3, 65535, b.number)
