-- What a scan tells of pages that are all good, and the verdict of an answer.
use Rattle.std.specs.Prelude.{◌≡◌, true, List, Ok, Err, Result}
use Rattle.chip.specs.Pages.{Page}
use Rattle.limits.specs.Values.{held_of, label_of}
use Rattle.limits.specs.declared.types.Register.{Register}
use Rattle.layout.specs.declared.pages.Tag.{Tag}
use Rattle.readings.specs.Versions.{any}
use Rattle.readings.specs.Sayings.{sayings}
use Rattle.readings.specs.Reading.{latest}
use Rattle.readings.specs.Mount.{Verdict, plain, is_register}
use Rattle.refusals.specs.Numbers.{verdict_of}
use Rattle.refusals.specs.declared.types.Refusal.{Refusal}
use Rattle.tables.specs.declared.index.Index.{Index}
use Rattle.mounting.specs.Tagged.{Tagged}

-- The tags are those of the pages, and the register is the youngest.
pub record Scanned (pages : List Page) (ts : List Tag) (r : Register) : Type 0 where
  pub tagged : Tagged (sayings pages) ts
  pub begun : any is_register (sayings pages) ≡ true
  pub birth : r.birth.number ≡ (latest (sayings pages)).birth
  pub held : held_of r.held ≡ (latest (sayings pages)).held
  pub label : label_of r.label ≡ (latest (sayings pages)).label

-- An answer without a refusal has the number 0.
abbrev pub verdict_in : Result Index Refusal → Verdict
verdict_in (Ok index) = plain 0
verdict_in (Err refusal) = verdict_of refusal
