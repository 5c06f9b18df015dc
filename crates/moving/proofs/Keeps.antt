-- What steps keep, one after another.
use Rattle.std.proofs.Common.{◌≡◌, ℕ, Bool, List, refl, ap, ◌∙◌, inl, inr}
use Rattle.chip.specs.Pages.{Page}
use Rattle.limits.specs.Values.{held_of}
use Rattle.readings.specs.Sayings.{Saying}
use Rattle.readings.specs.Reading.{stays}
use Rattle.readings.specs.Links.{stays_by}
use Rattle.tables.specs.declared.index.Index.{Index}
use Rattle.moving.specs.Sound.{LastStay, staying, Lasting, lasting}
use Rattle.moving.specs.Kept.{Kept}

pub kept_refl : (stay : Saying → Bool) (pages : List Page) → Kept stay pages pages
kept_refl stay pages = record { long = refl; less = λ x i. inr i; holds = λ x i t. i }

pub kept_trans : (stay : Saying → Bool) (pages pages' pages'' : List Page) → Kept stay pages pages' → Kept stay pages' pages'' → Kept stay pages pages''
kept_trans stay pages pages' pages'' a b =
    record {
      long = b.long ∙ a.long;
      less = λ x i. elim (b.less x i) [ inl e ↦ inl e | inr j ↦ a.less x j ];
      holds = λ x i t. b.holds x (a.holds x i t) t;
    }

-- What is to stay turns on what cleaning leaves as it is.
module _ (ix ix' : Index) (link : ℕ → ℕ) (limit : ℕ) (e : lasting ix' ≡ lasting ix) where
  pub staying_same : staying ix' link limit ≡ staying ix link limit
  staying_same = ap (λ (l : Lasting). stays (λ v. stays_by (held_of l.held) limit v.birth (link v.birth)) l.newest) e

  pub last_stay_same : (last_birth : ℕ → ℕ) → LastStay ix link last_birth limit → LastStay ix' link last_birth limit
  last_stay_same last_birth h s l b = ap (λ (z : Lasting). stays_by (held_of z.held) limit (last_birth s) (link (last_birth s))) e ∙ h s l b
