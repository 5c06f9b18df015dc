-- How many pages cleaning loses.
use Rattle.std.specs.Prelude.{◌≡◌, ℕ, ◌+◌, not, List, length}
use Rattle.chip.specs.Pages.{Page}
use Rattle.readings.specs.Versions.{keep}
use Rattle.readings.specs.Sayings.{sayings}
use Rattle.readings.specs.Reading.{must, Less}
use Rattle.readings.specs.Mount.{is_nothing}
use Rattle.tables.specs.declared.index.Index.{Index}
use Rattle.moving.specs.Sound.{staying}
use Rattle.moving.specs.Kept.{all_stale}
use Rattle.keeping.specs.Opened.{Opened, link_in, no_limit}
use Rattle.keeping.specs.Cleaned.{Cleaned}

-- How many pages are programmed.
abbrev pub programmed : List Page → ℕ
programmed pages = length (keep (λ x. not (is_nothing x)) (sayings pages))

-- What is stale by its record need not stay, on any pages that say nothing new.
abbrev pub StaleByRecord : Type 0
StaleByRecord = (blocks per : ℕ) (pages : List Page) (ix : Index) (pages' : List Page) → Opened blocks per pages ix → Less (sayings pages) (sayings pages') →
    all_stale (staying ix (link_in pages ix) no_limit) pages' ≡ all_stale (must (sayings pages)) pages'

-- The same pages are stale, whether by the pages before or by those after.
abbrev pub StaleAfter : Type 0
StaleAfter = (blocks per : ℕ) (pages : List Page) (ix : Index) (pages' : List Page) (ix' : Index) → Opened blocks per pages ix → Cleaned blocks per pages ix pages' ix' →
    all_stale (must (sayings pages')) pages' ≡ all_stale (must (sayings pages)) pages'

-- As many pages are programmed no more as are stale no more.
abbrev pub OnlyStaleLost : Type 0
OnlyStaleLost = (blocks per : ℕ) (pages : List Page) (ix : Index) (pages' : List Page) (ix' : Index) → Opened blocks per pages ix → Cleaned blocks per pages ix pages' ix' →
    programmed pages + all_stale (must (sayings pages')) pages' ≡ programmed pages' + all_stale (must (sayings pages)) pages
