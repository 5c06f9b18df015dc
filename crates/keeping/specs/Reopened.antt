-- What a cut at a held number needs of the memory, and leaves in it.
use Rattle.std.specs.Prelude.{◌≡◌, ℕ, suc, ◌+◌, ◌-◌, ◌*◌, ◌<◌, ◌≤◌, Bool, cond, List, [], length, MatchBool, nat_lt, slice_index, slice_index_or}
use Rattle.chip.specs.Pages.{Page}
use Rattle.limits.specs.Values.{held_of, label_of}
use Rattle.readings.specs.Versions.{Version, upto, keep}
use Rattle.readings.specs.Sorted.{In}
use Rattle.readings.specs.Meaning.{IsYoungest}
use Rattle.readings.specs.Sayings.{Saying, version, said, sayings}
use Rattle.readings.specs.Reading.{versions}
use Rattle.tables.specs.declared.index.Index.{Index}
use Rattle.moving.specs.Sound.{Sound, LastStay, staying}
use Rattle.keeping.specs.Stored.{Lone}
use Rattle.keeping.specs.Opened.{Opened, link_in, last_birth_in}
use Rattle.keeping.specs.Cut.{cut_stays, Cuttable, held_left, Cut, next_register, Registers}

-- Page m has the youngest version of sector s born at or before n.
pub record HasYoungest (pages : List Page) (n s m : ℕ) : Type 0 where
  pub last : Version
  pub stands : said (slice_index_or pages m []) ≡ version last
  pub youngest : IsYoungest (upto n) s (versions (sayings pages)) last

-- No version of sector s was born at or before n.
abbrev pub NoneUpTo : List Page → ℕ → ℕ → Type 0
NoneUpTo pages n s = (w : Version) → In w (versions (sayings pages)) → w.sector ≡ s → w.birth ≤ n → ⊥

-- The memory before a cut at n: the map has what each sector had at n, and the held numbers are those left.
pub record Prepared (pages : List Page) (ix : Index) (n : ℕ) (left : ℕ → Bool) (ix' : Index) : Type 0 where
  pub records : ix'.records ≡ ix.records
  pub counted : ix'.pages ≡ ix.pages
  pub newest : ix'.newest ≡ ix.newest
  pub spare : ix'.spare ≡ ix.spare
  pub held : held_of ix'.held ≡ held_left ix left
  pub mapped : (s : ℕ) → s < 2048 → MatchBool (nat_lt (slice_index ix'.map s) (length pages)) (HasYoungest pages n s (slice_index ix'.map s)) (NoneUpTo pages n s)

-- The births of what each sector had at n, 0 where it had no version.
pub record LastUpTo (pages : List Page) (n : ℕ) (last_birth : ℕ → ℕ) : Type 0 where
  pub none : (s : ℕ) → s < 2048 → last_birth s ≡ 0 → NoneUpTo pages n s
  pub last : (s : ℕ) → s < 2048 → 0 < last_birth s → (v : Version) × IsYoungest (upto n) s (versions (sayings pages)) v × (v.birth ≡ last_birth s)

-- Then pages can be moved, and versions born after n lost.
pub record Cutting (blocks per : ℕ) (pages : List Page) (ix : Index) (n : ℕ) (ix' : Index) : Type 0 where
  pub sound : Sound blocks per pages ix' (link_in pages ix) (last_birth_in pages ix')
  pub last_stay : LastStay ix' (link_in pages ix) (last_birth_in pages ix') n
  pub lasts : LastUpTo pages n (last_birth_in pages ix')

abbrev pub PreparedCanCut : Type 0
PreparedCanCut = (blocks per : ℕ) (pages : List Page) (ix : Index) (n : ℕ) (left : ℕ → Bool) (ix' : Index) → Opened blocks per pages ix → Cuttable ix n left →
    Prepared pages ix n left ix' → Cutting blocks per pages ix n ix'

-- What stays by the prepared memory is what stays at the cut.
abbrev pub PreparedKeeps : Type 0
PreparedKeeps = (pages : List Page) (ix : Index) (n : ℕ) (left : ℕ → Bool) (ix' : Index) → Prepared pages ix n left ix' →
    (x : Saying) → staying ix' (link_in pages ix) n x ≡ cut_stays pages ix (held_left ix left) n x

-- After the cut there is room for the register.
abbrev pub CutHasRoom : Type 0
CutHasRoom = (blocks per : ℕ) (pages : List Page) (ix : Index) (n : ℕ) (left : ℕ → Bool) (pages' : List Page) → Opened blocks per pages ix → Cuttable ix n left →
    Cut pages ix n left pages' → Lone pages' → 2 ≤ per → length (keep (cut_stays pages ix (held_left ix left) n) (sayings pages')) + 1 ≤ (blocks - 1) * per

-- A link to what was born after n is a link to nothing.
abbrev pub cut_link : ℕ → ℕ → ℕ
cut_link n t = cond (nat_lt n t) 0 t

-- The memory after the register of the next tick.
pub record Restarted (blocks per : ℕ) (pages : List Page) (ix : Index) (n : ℕ) (left : ℕ → Bool) (last_birth : ℕ → ℕ) (pages'' : List Page) (ix'' : Index) : Type 0 where
  pub sound : Sound blocks per pages'' ix'' (λ b. cut_link n (link_in pages ix b)) last_birth
  pub clock : ix''.clock ≡ suc ix.clock
  pub newest : ix''.newest ≡ suc ix.clock
  pub held : held_of ix''.held ≡ held_left ix left
  pub label : label_of ix''.label ≡ label_of ix.label

-- The store is open again.
abbrev pub CutReopens : Type 0
CutReopens = (blocks per : ℕ) (pages : List Page) (ix : Index) (n : ℕ) (left : ℕ → Bool) (last_birth : ℕ → ℕ) (pages' pages'' : List Page) (ix'' : Index) →
    Opened blocks per pages ix → Cuttable ix n left → LastUpTo pages n last_birth → Cut pages ix n left pages' →
    Registers pages' (next_register ix (held_left ix left)) pages'' → Restarted blocks per pages ix n left last_birth pages'' ix'' →
    Opened blocks per pages'' ix''
