-- What a call makes of an open store: the chip's pages, and what is in memory.
use Rattle.std.specs.Prelude.{◌≡◌, ℕ, ◌+◌, List, [], ◌∷◌, ◌≢◌}
use Rattle.chip.specs.Pages.{Page}
use Rattle.readings.specs.Sayings.{sayings}
use Rattle.readings.specs.Reading.{must, reading}
use Rattle.readings.specs.Mount.{capacity}
use Rattle.tables.specs.declared.index.Index.{Index}
use Rattle.moving.specs.Kept.{all_stale}
use Rattle.keeping.specs.Opened.{Opened}
use Rattle.rules.specs.Calls.{Call, Answer, Outcome, granted, rule}

-- What the rule says of a call on such a store.
abbrev pub outcome : Call → ℕ → ℕ → List Page → Outcome
outcome c blocks per pages = rule (capacity blocks per) c (reading (sayings pages))

-- The call follows its rule: its answer and the new reading are the rule's, the store is still open, and a refusal changes nothing.
pub record Followed (c : Call) (blocks per : ℕ) (pages : List Page) (ix : Index) (a : Answer) (pages' : List Page) (ix' : Index) : Type 0 where
  pub answer : a ≡ (outcome c blocks per pages).answer
  pub reads : reading (sayings pages') ≡ (outcome c blocks per pages).left
  pub opened : Opened blocks per pages' ix'
  pub refusal : (a.number ≢ 0) → (pages' ≡ pages) × (ix' ≡ ix)

abbrev pub Follows : Call → ℕ → ℕ → List Page → Index → Answer → List Page → Index → Type 0
Follows c blocks per pages ix a pages' ix' = Opened blocks per pages ix → Followed c blocks per pages ix a pages' ix'

-- A query changes nothing, and its answer is the rule's.
abbrev pub Tells : Call → ℕ → ℕ → List Page → Index → Answer → Type 0
Tells c blocks per pages ix a = Opened blocks per pages ix → a ≡ (outcome c blocks per pages).answer

-- How many pages are stale: programmed, and neither a needed version nor the youngest register.
abbrev pub stale_count : List Page → ℕ
stale_count pages = all_stale (must (sayings pages)) pages

-- n stale pages are lost, 0 exactly where there was none, and the store reads as before.
pub record Cleaned (blocks per : ℕ) (pages : List Page) (a : Answer) (pages' : List Page) (ix' : Index) : Type 0 where
  pub count : ℕ
  pub answer : a ≡ granted (count ∷ []) []
  pub lost : stale_count pages ≡ stale_count pages' + count
  pub some_lost : count ≡ 0 → stale_count pages ≡ 0
  pub reads : reading (sayings pages') ≡ reading (sayings pages)
  pub opened : Opened blocks per pages' ix'

abbrev pub Cleans : ℕ → ℕ → List Page → Index → Answer → List Page → Index → Type 0
Cleans blocks per pages ix a pages' ix' = Opened blocks per pages ix → Cleaned blocks per pages a pages' ix'
