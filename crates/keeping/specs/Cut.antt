-- What a cut at a held number leaves.
use Rattle.std.specs.Prelude.{◌≡◌, ℕ, suc, ◌<◌, ◌≤◌, Bool, true, ◌&&◌, leb, List, [], length, nat_le, nat_lt, slice_index_or, slice_set}
use Rattle.chip.specs.Pages.{Page, is_erased}
use Rattle.limits.specs.Values.{held_of, label_of}
use Rattle.readings.specs.Versions.{Version, keep, has, needed, leave}
use Rattle.readings.specs.Sorted.{In, sort}
use Rattle.readings.specs.Sayings.{Register, Saying, register, said, sayings}
use Rattle.readings.specs.Reading.{versions, reading, stays}
use Rattle.readings.specs.Links.{stays_by}
use Rattle.readings.specs.Changes.{reverted, backed}
use Rattle.tables.specs.declared.index.Index.{Index}
use Rattle.moving.specs.Kept.{Kept}
use Rattle.keeping.specs.Opened.{Opened, link_in}

-- What stays at a cut at n, with the numbers `held` from now on: versions by their births and links, and the youngest register.
abbrev pub cut_stays : List Page → Index → List ℕ → ℕ → Saying → Bool
cut_stays pages ix held n = stays (λ v. stays_by held n v.birth (link_in pages ix v.birth)) ix.newest

-- n is held, and `left` tells which held numbers are left, none above n.
pub record Cuttable (ix : Index) (n : ℕ) (left : ℕ → Bool) : Type 0 where
  pub is_held : has n (held_of ix.held) ≡ true
  pub none_above : (m : ℕ) → left m ≡ true → m ≤ n

abbrev pub held_left : Index → (ℕ → Bool) → List ℕ
held_left ix left = keep left (held_of ix.held)

-- A version's record tells whether it is needed among those up to n.
abbrev pub CutIsNeed : Type 0
CutIsNeed = (blocks per : ℕ) (pages : List Page) (ix : Index) (n : ℕ) (left : ℕ → Bool) → Opened blocks per pages ix → Cuttable ix n left →
    (v : Version) → In v (versions (sayings pages)) →
    stays_by (held_left ix left) n v.birth (link_in pages ix v.birth) ≡
    (nat_le v.birth n && needed (held_left ix left) (sort (keep (λ w. leb w.birth n) (versions (sayings pages)))) v)

-- What is to stay stands, and no version born after n.
pub record Cut (pages : List Page) (ix : Index) (n : ℕ) (left : ℕ → Bool) (pages' : List Page) : Type 0 where
  pub kept : Kept (cut_stays pages ix (held_left ix left) n) pages pages'
  pub none_later : (v : Version) → In v (versions (sayings pages')) → v.birth ≤ n

-- Pages moved after a cut are cut as well.
abbrev pub CutGoesOn : Type 0
CutGoesOn = (pages : List Page) (ix : Index) (n : ℕ) (left : ℕ → Bool) (pages' pages'' : List Page) → Cut pages ix n left pages' →
    Kept (cut_stays pages ix (held_left ix left) n) pages' pages'' → Cut pages ix n left pages''

-- The register of the next tick.
abbrev pub next_register : Index → List ℕ → Register
next_register ix held = record { birth = suc ix.clock; held = held; label = label_of ix.label }

-- A page is programmed with register r.
pub record Registers (pages : List Page) (r : Register) (pages' : List Page) : Type 0 where
  pub place : ℕ
  pub page : Page
  pub inside : place < length pages
  pub free : is_erased (slice_index_or pages place []) ≡ true
  pub says : said page ≡ register r
  pub pages_are : pages' ≡ slice_set pages place page

-- The versions born after n leave, and so do the held numbers that are not left.
abbrev pub CutReads : Type 0
CutReads = (blocks per : ℕ) (pages : List Page) (ix : Index) (n : ℕ) (left : ℕ → Bool) (pages' pages'' : List Page) → Opened blocks per pages ix → Cuttable ix n left →
    Cut pages ix n left pages' → Registers pages' (next_register ix (held_left ix left)) pages'' →
    reading (sayings pages'') ≡ leave left (λ b. leb b n) (reading (sayings pages))

abbrev pub RevertReads : Type 0
RevertReads = (blocks per : ℕ) (pages : List Page) (ix : Index) (n : ℕ) (pages' pages'' : List Page) → Opened blocks per pages ix → has n (held_of ix.held) ≡ true →
    Cut pages ix n (λ m. leb m n) pages' → Registers pages' (next_register ix (held_left ix (λ m. leb m n))) pages'' →
    reading (sayings pages'') ≡ reverted n (reading (sayings pages))

abbrev pub BackReads : Type 0
BackReads = (blocks per : ℕ) (pages : List Page) (ix : Index) (n : ℕ) (pages' pages'' : List Page) → Opened blocks per pages ix → has n (held_of ix.held) ≡ true →
    Cut pages ix n (λ m. nat_lt m n) pages' → Registers pages' (next_register ix (held_left ix (λ m. nat_lt m n))) pages'' →
    reading (sayings pages'') ≡ backed n (reading (sayings pages))
