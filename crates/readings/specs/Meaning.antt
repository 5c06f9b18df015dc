-- What the words say of pages in any order: the youngest, the needed, their number, and what may be done to pages unseen.
use Rattle.std.specs.Prelude.{◌≡◌, ℕ, ◌≤◌, true, ◌⊎◌, ◌↔◌, List, [], ◌∷◌, length, ◌≢◌}
use Rattle.std.proofs.Math.Option.{some}
use Rattle.readings.specs.Versions.{Version, Bound, now, upto, youngest, keep, has, needed, settle}
use Rattle.readings.specs.Sorted.{In, sort, reading_of, Apart}

abbrev pub Within : Bound → ℕ → Type 0
Within now birth = Unit {0}
Within (upto n) birth = birth ≤ n

-- v is of sector s, born within the bound, and no other such version is younger
pub record IsYoungest (b : Bound) (s : ℕ) (pages : List Version) (v : Version) : Type 0 where
  pub stands : In v pages
  pub of_sector : v.sector ≡ s
  pub in_time : Within b v.birth
  pub none_younger : (w : Version) → In w pages → w.sector ≡ s → Within b w.birth → w.birth ≤ v.birth

abbrev pub YoungestMeans : Type 0
YoungestMeans = (b : Bound) (s : ℕ) (pages : List Version) (v : Version) → Apart pages →
    (youngest b s (sort pages) ≡ some v) ↔ IsYoungest b s pages v

abbrev pub NeededMeans : Type 0
NeededMeans = (held : List ℕ) (pages : List Version) (v : Version) → Apart pages → In v pages →
    (needed held (sort pages) v ≡ true) ↔
    (IsYoungest now v.sector pages v ⊎ ((n : ℕ) × (has n held ≡ true) × IsYoungest (upto n) v.sector pages v))

-- each birth stands once
abbrev pub Once : List Version → Type 0
Once [] = Unit {0}
Once (v ∷ vs) = ((w : Version) → In w vs → w.birth ≢ v.birth) × Once vs

-- the needed ones can be counted in the pages' own order
abbrev pub CountedInPlace : Type 0
CountedInPlace = (held : List ℕ) (pages : List Version) → Once pages →
    length (settle held (sort pages)) ≡ length (keep (needed held (sort pages)) pages)

-- pages with the same versions, however often and in whichever order
abbrev pub SameVersions : Type 0
SameVersions = (label : List ℕ) (clock : ℕ) (held : List ℕ) (pages others : List Version) → Apart pages →
    ((v : Version) → In v pages → In v others) → ((v : Version) → In v others → In v pages) →
    reading_of label clock held others ≡ reading_of label clock held pages

pub record WordsMean : Type 0 where
  pub youngest_means : YoungestMeans
  pub needed_means : NeededMeans
  pub counted_in_place : CountedInPlace
  pub same_versions : SameVersions
