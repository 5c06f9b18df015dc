-- What steps keep of what the pages say.
use Rattle.std.specs.Prelude.{◌≡◌, ℕ, Bool, true, not, ◌&&◌, List, [], length, count_by, slice_index_or}
use Rattle.std.specs.List.{range_with_len}
use Rattle.chip.specs.Pages.{Page}
use Rattle.readings.specs.Versions.{keep}
use Rattle.readings.specs.Sorted.{In}
use Rattle.readings.specs.Sayings.{Saying, said, sayings}
use Rattle.readings.specs.Reading.{Less}
use Rattle.readings.specs.Mount.{is_nothing}

-- Nothing new is said, and all that is to stay stands.
pub record Kept (stay : Saying → Bool) (pages pages' : List Page) : Type 0 where
  pub long : length pages' ≡ length pages
  pub less : Less (sayings pages) (sayings pages')
  pub holds : (x : Saying) → In x (sayings pages) → stay x ≡ true → In x (sayings pages')

-- Programmed, and not to stay.
abbrev pub stale : (Saying → Bool) → Saying → Bool
stale stay x = not (is_nothing x) && not (stay x)

-- How many pages are stale.
abbrev pub all_stale : (Saying → Bool) → List Page → ℕ
all_stale stay pages = length (keep (stale stay) (sayings pages))

-- Of the n numbers from `from` on, how many pass a test.
abbrev pub tally : (ℕ → Bool) → ℕ → ℕ → ℕ
tally p from n = count_by p (range_with_len from n)

-- Of the n pages from `from` on, how many are stale.
abbrev pub stale_in : (Saying → Bool) → List Page → ℕ → ℕ → ℕ
stale_in stay pages from n = tally (λ k. stale stay (said (slice_index_or pages k []))) from n
