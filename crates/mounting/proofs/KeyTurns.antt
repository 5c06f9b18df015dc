-- The keys of versions, and the next key.
use Rattle.std.proofs.Common.{◌≡◌, ℕ, List, [], ◌∷◌, get_or, leb, true, false, refl, ap, ⊎_elim, arith}
use Rattle.std.specs.List.{filter_map}
use Rattle.std.specs.Option.{option_map}
use Rattle.std.specs.List.Sorted.{IsNonDecreasing, IsPartitionPoint}
use Rattle.std.proofs.lemmas.Bool.{cases_lt, leb-true, leb-false}
use Rattle.layout.specs.declared.pages.Tag.{Tag}
use Rattle.layout.specs.declared.pages.Tag.TheVariants as tag
use Rattle.readings.specs.Reading.{versions}
use Rattle.mounting.specs.Tagged.{tag_sayings, version_in}
use Rattle.mounting.specs.Keys.{keys, version_key, Above}

pub keys_are : (ts : List Tag) → filter_map (λ t. option_map version_key (version_in t)) ts ≡ keys (tag_sayings ts)
unfolding versions
keys_are [] = refl
keys_are (tag.Erased ∷ ts) = keys_are ts
keys_are (tag.Data v ∷ ts) = ap (λ l. version_key v ∷ l) (keys_are ts)
keys_are (tag.Deletion v ∷ ts) = ap (λ l. version_key v ∷ l) (keys_are ts)
keys_are (tag.Register b ∷ ts) = keys_are ts

pub above_point : (ks : List ℕ) (n i : ℕ) → IsNonDecreasing ks → IsPartitionPoint (λ k. leb k n ≡ true) (λ k. leb k n ≡ false) ks i → Above ks n i
above_point ks n i up p =
    record {
      above = λ h. leb-false (get_or ks i 0) n (p.1 i 0 (omega arith) h);
      least = λ k h q. ⊎_elim (λ u. let z = leb-true (get_or ks k 0) n (p.0 k 0 (omega arith) u) in absurd (omega arith)) (λ u. (omega arith, up i k 0 u h)) (cases_lt k i);
    }
