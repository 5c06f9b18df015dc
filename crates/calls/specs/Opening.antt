-- What formatting and mounting a chip leave.
use Rattle.std.specs.Prelude.{◌≡◌, ℕ, cond, List, length, IfOk, Result, ◌≢◌, nat_lt}
use Rattle.chip.specs.Pages.{Page}
use Rattle.readings.specs.Sayings.{sayings}
use Rattle.readings.specs.Reading.{reading}
use Rattle.readings.specs.Changes.{fresh}
use Rattle.readings.specs.Mount.{Verdict, plain, size_fits}
use Rattle.refusals.specs.declared.types.Refusal.{Refusal}
use Rattle.tables.specs.declared.index.Index.{Index}
use Rattle.mounting.specs.Mounted.{verdict_in}
use Rattle.keeping.specs.Opened.{Opened}

-- The store is open, and its clock is that of the pages.
pub record Reopened (blocks per : ℕ) (pages : List Page) (ix : Index) : Type 0 where
  pub opened : Opened blocks per pages ix
  pub clock : ix.clock ≡ (reading (sayings pages)).clock

-- Why a chip is not formatted.
abbrev pub format_verdict : List ℕ → ℕ → ℕ → Verdict
format_verdict label blocks per = cond (size_fits blocks per) (cond (nat_lt 32 (length label)) (plain 4) (plain 0)) (plain 3)

pub record Fresh (label : List ℕ) (blocks per : ℕ) (pages' : List Page) (ix : Index) : Type 0 where
  pub opened : Opened blocks per pages' ix
  pub reads : reading (sayings pages') ≡ fresh label
  pub clock : ix.clock ≡ 1

pub record Begins (label : List ℕ) (blocks per : ℕ) (pages : List Page) (r : Result Index Refusal) (pages' : List Page) : Type 0 where
  pub verdict : verdict_in r ≡ format_verdict label blocks per
  pub refusal : ((verdict_in r).number ≢ 0) → pages' ≡ pages
  pub begun : IfOk r (Fresh label blocks per pages')
