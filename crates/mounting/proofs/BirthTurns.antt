-- The births in tags.
use Rattle.std.proofs.Common.{◌≡◌, ℕ, max, fold, List, [], ◌∷◌, refl, ap, ◌∙◌, arith}
use Rattle.std.specs.List.{filter_map}
use Rattle.layout.specs.declared.pages.Tag.{Tag}
use Rattle.layout.specs.declared.pages.Tag.TheVariants as tag
use Rattle.readings.specs.Reading.{clock_of}
use Rattle.readings.specs.Mount.{births}
use Rattle.mounting.specs.Tagged.{tag_sayings, birth_in}

pub births_are : (ts : List Tag) → filter_map birth_in ts ≡ births (tag_sayings ts)
unfolding births
births_are [] = refl
births_are (tag.Erased ∷ ts) = births_are ts
births_are (tag.Data v ∷ ts) = ap (λ l. v.birth.number ∷ l) (births_are ts)
births_are (tag.Deletion v ∷ ts) = ap (λ l. v.birth.number ∷ l) (births_are ts)
births_are (tag.Register b ∷ ts) = ap (λ l. b.number ∷ l) (births_are ts)

from : (ts : List Tag) (n : ℕ) → fold max n (filter_map birth_in ts) ≡ max n (clock_of (tag_sayings ts))
unfolding clock_of
from [] n = omega arith
from (tag.Erased ∷ ts) n = from ts n ∙ omega arith
from (tag.Data v ∷ ts) n = from ts (max n v.birth.number) ∙ omega arith
from (tag.Deletion v ∷ ts) n = from ts (max n v.birth.number) ∙ omega arith
from (tag.Register b ∷ ts) n = from ts (max n b.number) ∙ omega arith

pub clock_is : (ts : List Tag) → fold max 0 (filter_map birth_in ts) ≡ clock_of (tag_sayings ts)
clock_is ts = from ts 0 ∙ omega arith
