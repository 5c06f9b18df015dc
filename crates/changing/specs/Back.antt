-- Memory, rewound to a held number.
use Rattle.std.specs.Prelude.{◌≡◌, ℕ, ◌+◌, ◌*◌, ◌<◌, ◌≤◌, min, Bool, true, cond, ◌&&◌, ltb, leb, ◌⊎◌, List, [], length, get_or, Some, None, Ok, Err, Option, Result, ◌==◌, slice_index, slice_index_or}
use Rattle.chip.specs.declared.ChipFault.{ChipFault}
use Rattle.chip.specs.declared.PageNumber.{PageNumber}
use Rattle.chip.specs.Pages.{Page, is_erased}
use Rattle.limits.specs.declared.types.Bounded.{Bounded}
use Rattle.limits.specs.Values.{held_of}
use Rattle.tables.specs.declared.index.Index.{Index}
use Rattle.moving.specs.Sound.{Sound, Lasting, lasting}
use Rattle.keeping.specs.Opened.{link_in}
use Rattle.keeping.specs.Cut.{Cut, Cuttable, held_left}
use Rattle.keeping.specs.Reopened.{LastUpTo, cut_link}
use Rattle.readings.specs.Versions.{keep, has}
use Rattle.readings.specs.Sayings.{sayings}
use Rattle.readings.specs.Reading.{reading}
use Rattle.readings.specs.Changes.{reverted, backed}
use Rattle.tables.specs.declared.types.Record.{Record}
use Rattle.tables.specs.Records.{unused, is_born_within}
use Rattle.changing.specs.Changed.{Changed, CanChange}
use Rattle.noting.specs.Lookups.{page_in_state}

-- A page's number in the map; 65535 where there is none.
abbrev pub map_entry : Option PageNumber → ℕ
map_entry None = 65535
map_entry (Some p) = min p.0 65535

-- What the map has for sector s once page k was entered, where it had m.
abbrev pub entered : List Record → ℕ → ℕ → ℕ → ℕ → ℕ
entered records n k s m =
    let r = get_or records k unused in
    cond (r.sector == s && is_born_within (get_or records m unused).birth n r) k m

-- The map has what each sector had at n, and other numbers are held.
pub record Rewound (ix : Index) (n : ℕ) (held : Bounded ℕ 8) (ix' : Index) : Type 0 where
  pub records : ix'.records ≡ ix.records
  pub counted : ix'.pages ≡ ix.pages
  pub clock : ix'.clock ≡ ix.clock
  pub newest : ix'.newest ≡ ix.newest
  pub label : ix'.label ≡ ix.label
  pub spare : ix'.spare ≡ ix.spare
  pub holds : ix'.held ≡ held
  pub mapped : (s : ℕ) → s < 2048 → slice_index ix'.map s ≡ map_entry (page_in_state ix n s)

-- What lasts while versions go; other numbers are held.
abbrev pub cut_lasting : Index → Bounded ℕ 8 → Lasting
cut_lasting ix held = record { pages = ix.pages; clock = ix.clock; newest = ix.newest; held = held; label = ix.label }

-- The versions born after n are gone, and the page is erased and not of the spare block.
pub record CutDown (blocks per : ℕ) (pages : List Page) (ix : Index) (n : ℕ) (left : ℕ → Bool) (page : ℕ) (pages' : List Page) (ix' : Index) : Type 0 where
  pub last_birth : ℕ → ℕ
  pub lasts : LastUpTo pages n last_birth
  pub cut : Cut pages ix n left pages'
  pub sound : Sound blocks per pages' ix' (link_in pages ix) last_birth
  pub inside : page < length pages'
  pub outside : (page < ix'.spare.0 * per) ⊎ (ix'.spare.0 * per + per ≤ page)
  pub free : is_erased (slice_index_or pages' page []) ≡ true

abbrev pub CutsTo : ℕ → ℕ → List Page → Index → ℕ → (ℕ → Bool) → Result PageNumber ChipFault → List Page → Index → Type 0
CutsTo blocks per pages ix n left (Ok page) pages' ix' = CutDown blocks per pages ix n left page.0 pages' ix'
CutsTo blocks per pages ix n left (Err fault) pages' ix' = ⊥

-- The record, without a link to what was born after n.
abbrev pub unlinked : ℕ → Record → Record
unlinked n r = record { birth = r.birth; link = cut_link n r.link; sector = r.sector; kind = r.kind }

module _ (blocks per : ℕ) (pages : List Page) (ix : Index) (n : ℕ) (held : List ℕ) (r : Result (Unit {0}) ChipFault) (pages' : List Page) (ix' : Index) where
  -- Back to n, whose number is held further or is not.
  pub record WentBack : Type 0 where
    pub reverts : held ≡ keep (λ m. leb m n) (held_of ix.held) → Changed blocks per (reverted n (reading (sayings pages))) r pages' ix'
    pub backs : held ≡ keep (λ m. ltb m n) (held_of ix.held) → Changed blocks per (backed n (reading (sayings pages))) r pages' ix'

  abbrev pub GoesBack : Type 0
  GoesBack = CanChange blocks per pages ix → has n (held_of ix.held) ≡ true → WentBack

-- What a cut leaves, for each choice of the held numbers that are left.
pub record WasCut (blocks per : ℕ) (pages : List Page) (ix : Index) (n : ℕ) (held : Bounded ℕ 8) (page : ℕ) (pages' : List Page) (ix' : Index) : Type 0 where
  pub can : CanChange blocks per pages ix
  pub was_held : has n (held_of ix.held) ≡ true
  pub lasts : lasting ix' ≡ cut_lasting ix held
  pub cut : (left : ℕ → Bool) → Cuttable ix n left → held_of held ≡ held_left ix left → CutDown blocks per pages ix n left page pages' ix'

-- A cut has no fault where a choice fits.
abbrev pub CutResult : ℕ → ℕ → List Page → Index → ℕ → Bounded ℕ 8 → Result PageNumber ChipFault → List Page → Index → Type 0
CutResult blocks per pages ix n held (Ok page) pages' ix' = WasCut blocks per pages ix n held page.0 pages' ix'
CutResult blocks per pages ix n held (Err fault) pages' ix' = WentBack blocks per pages ix n (held_of held) (Err fault) pages' ix'

abbrev pub Cuts : ℕ → ℕ → List Page → Index → ℕ → Bounded ℕ 8 → Result PageNumber ChipFault → List Page → Index → Type 0
Cuts blocks per pages ix n held r pages' ix' = CanChange blocks per pages ix → has n (held_of ix.held) ≡ true → CutResult blocks per pages ix n held r pages' ix'
