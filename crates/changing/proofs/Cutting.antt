-- The versions born after a held number go.
use Rattle.std.proofs.Common.{◌≡◌, ℕ, ◌≤◌, Bool, List, Ok, Err, Result, sym, ap, ◌∙◌, subst}
use Rattle.std.proofs.lemmas.Bool.{ltb-false}
use Rattle.chip.specs.declared.ChipFault.{ChipFault}
use Rattle.chip.specs.declared.PageNumber.{PageNumber}
use Rattle.chip.specs.Pages.{Page}
use Rattle.readings.specs.Versions.{Version}
use Rattle.readings.specs.Sorted.{In}
use Rattle.readings.specs.Sayings.{version, sayings}
use Rattle.readings.specs.Reading.{versions}
use Rattle.tables.specs.declared.index.Index.{Index}
use Rattle.moving.specs.Sound.{staying, lasting}
use Rattle.moving.specs.Kept.{Kept}
use Rattle.moving.specs.Moves.{Answer}
use Rattle.moving.proofs.Keeps.{staying_same, last_stay_same}
use Rattle.room.specs.Choose.{is_later, Fits, Purged, Purges, Makes, MakesRoom}
use Rattle.keeping.specs.Opened.{Opened, link_in, last_birth_in}
use Rattle.keeping.specs.Cut.{Cut, Cuttable, cut_stays, held_left}
use Rattle.keeping.specs.Reopened.{Prepared, Cutting}
use Rattle.keeping.proofs.Cut.{cut_goes_on}
use Rattle.keeping.proofs.Lists.{says_at}
use Rattle.keeping.proofs.Reading.{in_versions}
use Rattle.keeping.proofs.Reopened.{prepared_can_cut, prepared_keeps, cut_has_room}
use Rattle.changing.specs.Back.{CutsTo}

module _ (blocks per : ℕ) (pages : List Page) (ix : Index) (n : ℕ) (left : ℕ → Bool) (o : Opened blocks per pages ix) (can : Cuttable ix n left) (least : 2 ≤ per)
    (ix₁ : Index) (prep : Prepared pages ix n left ix₁) where
  abbrev link : ℕ → ℕ
  link = link_in pages ix

  abbrev last : ℕ → ℕ
  last = last_birth_in pages ix₁

  cutting : Cutting blocks per pages ix n ix₁
  cutting = prepared_can_cut blocks per pages ix n left ix₁ o can prep

  same_stay : staying ix₁ link n ≡ cut_stays pages ix (held_left ix left) n
  same_stay = λ i x. prepared_keeps pages ix n left ix₁ prep x i

  pub purged : (r : Answer) (pages₂ : List Page) (ix₂ : Index) → Purges blocks per pages ix₁ n r pages₂ ix₂ → Purged blocks per pages ix₁ link last n r pages₂ ix₂
  purged r pages₂ ix₂ p = p link last cutting.sound cutting.last_stay

  module _ (r : Answer) (pages₂ : List Page) (ix₂ : Index) (lasts : lasting ix₂ ≡ lasting ix₁) (p : Purged blocks per pages ix₁ link last n r pages₂ ix₂) where
    early : (v : Version) → In v (versions (sayings pages₂)) → v.birth ≤ n
    early v i =
        let w = says_at pages₂ (version v) (in_versions (sayings pages₂) v i) in
        ltb-false n v.birth (sym (ap (is_later n) w.2) ∙ p.none_later w.0 w.1)

    is_cut : Cut pages ix n left pages₂
    is_cut = record { kept = subst (λ stay. Kept stay pages pages₂) same_stay p.kept; none_later = early }

    stay_now : staying ix₂ link n ≡ cut_stays pages ix (held_left ix left) n
    stay_now = staying_same ix₁ ix₂ link n lasts ∙ same_stay

    fits : Fits blocks per (staying ix₂ link n) pages₂
    fits = subst (λ stay. Fits blocks per stay pages₂) (sym stay_now) (cut_has_room blocks per pages ix n left pages₂ o can is_cut p.sound.lone least)

    pub cuts : (q : Result PageNumber ChipFault) (pages₃ : List Page) (ix₃ : Index) → MakesRoom blocks per pages₂ ix₂ n q pages₃ ix₃ → CutsTo blocks per pages ix n left q pages₃ ix₃
    cuts q pages₃ ix₃ makes = go q (makes link last p.sound (last_stay_same ix₁ ix₂ link n lasts last cutting.last_stay) fits)
      where
        go : (q : Result PageNumber ChipFault) → Makes blocks per pages₂ ix₂ link last n q pages₃ ix₃ → CutsTo blocks per pages ix n left q pages₃ ix₃
        go (Ok page) m = record {
          last_birth = last;
          lasts = cutting.lasts;
          cut = cut_goes_on pages ix n left pages₂ pages₃ is_cut (subst (λ stay. Kept stay pages₂ pages₃) stay_now m.kept);
          sound = m.sound;
          inside = m.inside;
          outside = m.outside;
          free = m.free;
        }
        go (Err fault) m = m
