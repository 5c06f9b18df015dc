-- The page with the data of a sector.
use Rattle.std.specs.Prelude.{◌≡◌, ℕ, ◌<◌, ◌-◌, Bool, true, false, cond, ◌++◌, ◌==◌, List, [], ◌∷◌, length, get_or, take, replicate, Some, None, Option, slice_index_or}
use Rattle.std.proofs.Math.Option as opt
use Rattle.chip.specs.declared.PageNumber.{PageNumber}
use Rattle.chip.specs.Pages.{Page}
use Rattle.limits.specs.declared.types.Bounded.{Bounded}
use Rattle.limits.specs.Values.{items_of}
use Rattle.readings.specs.Versions.{Version}
use Rattle.tables.specs.declared.index.Index.{Index}
use Rattle.tables.specs.declared.types.Kind.{Kind}
use Rattle.tables.specs.declared.types.Kind.TheVariants as kind
use Rattle.tables.specs.Records.{unused}
use Rattle.rules.specs.declared.types.Tick.{Tick}
use Rattle.rules.specs.declared.types.Holding.{Holding}
use Rattle.rules.specs.declared.types.Holding.TheVariants.{Data, Empty}
use Rattle.rules.specs.Calls.{shown, born_at}

abbrev pub is_data : Kind → Bool
is_data kind.Data = true
is_data kind.Erased = false
is_data kind.Deletion = false
is_data kind.Register = false

-- The page, if its record is of data.
abbrev pub data_page : Index → Option PageNumber → Option PageNumber
data_page ix None = None
data_page ix (Some p) = cond (is_data (get_or ix.records p.0 unused).kind) (Some p) None

-- Page p has the bytes that the version o shows, and its record has the birth.
pub record HasData (pages : List Page) (ix : Index) (o : opt.Option Version) (p : ℕ) : Type 0 where
  pub inside : p < length pages
  pub shows : shown o ≡ opt.some (take 512 (slice_index_or pages p []))
  pub born : born_at o ≡ (get_or ix.records p unused).birth ∷ []

-- o shows no bytes: it is a deletion, or there is no version.
pub record HasNone (o : opt.Option Version) : Type 0 where
  pub shows : shown o ≡ opt.none
  pub born : born_at o ≡ []

abbrev pub Holds : List Page → Index → opt.Option Version → Option PageNumber → Type 0
Holds pages ix o None = HasNone o
Holds pages ix o (Some p) = HasData pages ix o p.0

abbrev pub fetched : Option PageNumber → Holding
fetched None = Empty
fetched (Some p) = Data

-- The bytes of the page, where the chip has it, or 512 bytes 00 for no page.
abbrev pub Fills : List Page → Option PageNumber → List ℕ → Type 0
Fills pages None buffer = buffer ≡ replicate 512 0
Fills pages (Some p) buffer = p.0 < length pages → buffer ≡ take 512 (slice_index_or pages p.0 [])

-- The birth of the page's version.
abbrev pub born_of : Index → Option PageNumber → Option Tick
born_of ix None = None
born_of ix (Some p) = Some (record { 0 = (get_or ix.records p.0 unused).birth })

-- The buffer has the length asked for, and the items with zeros after them; there are n.
pub record Listed {A : Type 0} {most : ℕ} (given : Bounded A most) (zero : A) (old : List A) (n : ℕ) (buffer : List A) : Type 0 where
  pub fits : (length old == most) ≡ true
  pub long : n ≡ length (items_of given)
  pub lists : buffer ≡ items_of given ++ replicate (most - length (items_of given)) zero
