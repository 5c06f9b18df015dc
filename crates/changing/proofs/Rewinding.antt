-- Memory, rewound to a held number.
use Rattle.std.proofs.Common.{◌≡◌, ℕ, zero, suc, ◌<◌, ◌≤◌, min, Bool, true, false, cond, ◌&&◌, eqb, ltb, leb, List, [], ◌∷◌, length, get_or, Some, None, MatchBool, Option, sym, refl, ap, ◌∙◌, subst, inl, inr, arith}
use mathlib.Core.Option as opt
use Rattle.std.proofs.lemmas.List.{get_or_past}
use Rattle.std.proofs.lemmas.Bool.{cond_both, and_from, eq-eqb, le-leb, le-ltb, lt-ltb}
use Rattle.chip.specs.declared.PageNumber.{PageNumber}
use Rattle.chip.specs.Pages.{Page}
use Rattle.limits.specs.declared.types.Bounded.{Bounded}
use Rattle.limits.specs.Values.{held_of}
use Rattle.readings.specs.Versions.{upto, choose, first, of, has}
use Rattle.readings.specs.Sorted.{In, sort}
use Rattle.readings.specs.Sayings.{Saying, sayings}
use Rattle.readings.specs.Reading.{versions, reading}
use Rattle.readings.specs.Changes.{in_state}
use Rattle.readings.proofs.Meaning.{words_mean}
use Rattle.readings.proofs.Sorted.{sort_in}
use Rattle.tables.specs.declared.index.Index.{Index}
use Rattle.tables.specs.declared.types.Record.{Record}
use Rattle.tables.specs.Records.{unused, is_version, is_born_within}
use Rattle.keeping.specs.Opened.{Opened}
use Rattle.keeping.specs.Cut.{Cuttable, held_left}
use Rattle.keeping.specs.Reopened.{HasYoungest, NoneUpTo, Prepared}
use Rattle.keeping.proofs.Links.{when_of_true, when_of_false}
use Rattle.keeping.proofs.Opened.{has_held}
use Rattle.noting.specs.Consistent.{Consistent}
use Rattle.noting.specs.Lookups.{Shows, page_number, is_of, Found, found_below, page_in_state}
use Rattle.noting.proofs.Added.{apart}
use Rattle.noting.proofs.Youngest.{reading_youngest, shows_in_state}
use Rattle.changing.specs.Back.{map_entry, entered, Rewound}
use Rattle.changing.proofs.Adding.{consistent}

first_none : {A : Type 0} (p : A → Bool) (l : List A) (w : A) → In w l → p w ≡ true → first p l ≡ opt.none → ⊥
unfolding first
first_none p [] w i t e = absurd i
first_none p (x ∷ xs) w i t e = go (p x) refl e (λ j e. first_none p xs w j t e)
  where
    go : (b : Bool) → p x ≡ b → choose b x (first p xs) ≡ opt.none → (In w xs → first p xs ≡ opt.none → ⊥) → ⊥
    go true q e more = let z : ◌≡◌ {A = ℕ} 0 1 = cc in omega arith
    go false q e more = elim i [
      | inl f ↦ let y : ◌≡◌ {A = Bool} true false = sym t ∙ ap p f ∙ q in let z : ◌≡◌ {A = ℕ} 0 1 = cc in omega arith
      | inr j ↦ more j e
    ]

module _ (blocks per : ℕ) (pages : List Page) (ix : Index) (o : Opened blocks per pages ix) (n : ℕ) (held : has n (held_of ix.held) ≡ true) where
  abbrev xs : List Saying
  xs = sayings pages

  con : Consistent blocks per pages ix
  con = consistent blocks per pages ix o

  entry : (s : ℕ) (p : Option PageNumber) → Shows pages p (in_state (reading xs) n s) →
      MatchBool (ltb (map_entry p) (length pages)) (HasYoungest pages n s (map_entry p)) (NoneUpTo pages n s)
  entry s None none =
      when_of_false (ltb 65535 (length pages)) (HasYoungest pages n s 65535) (NoneUpTo pages n s) (le-ltb 65535 (length pages) (omega (arith, ix.few, o.tells.counted))) (λ w i e l.
      first_none (of (upto n) s) (sort (versions xs)) w (sort_in (versions xs) w (apart xs con.told) i) (and_from (eqb w.sector s) (leb w.birth n) (eq-eqb w.sector s e) (le-leb w.birth n l))
      (sym (reading_youngest xs (upto n) s (has_held blocks per pages ix o n held)) ∙ none))
  entry s (Some p) sh =
      let h = sh.2 in
      let q : min p.0 65535 ≡ p.0 = omega (arith, ix.few, o.tells.counted) in
      let m = min p.0 65535 in
      when_of_true (ltb m (length pages)) (HasYoungest pages n s m) (NoneUpTo pages n s) (ap (λ m. ltb m (length pages)) q ∙ lt-ltb p.0 (length pages) h)
      (subst (λ m. HasYoungest pages n s m) (sym q) (record {
        last = sh.0;
        stands = sh.3;
        youngest = (words_mean.youngest_means (upto n) s (versions xs) sh.0 (apart xs con.told)).0 (sym (reading_youngest xs (upto n) s (has_held blocks per pages ix o n held)) ∙ sh.1);
      }))

  pub mapped_at : (s m : ℕ) → m ≡ map_entry (page_in_state ix n s) → MatchBool (ltb m (length pages)) (HasYoungest pages n s m) (NoneUpTo pages n s)
  mapped_at s m e =
      subst (λ m. MatchBool (ltb m (length pages)) (HasYoungest pages n s m) (NoneUpTo pages n s)) (sym e)
      (entry s (page_in_state ix n s) (shows_in_state blocks per pages ix con n s held))

pub prepared : (blocks per : ℕ) (pages : List Page) (ix : Index) (n : ℕ) (left : ℕ → Bool) (held : Bounded ℕ 8) (ix' : Index) → Opened blocks per pages ix → Cuttable ix n left → held_of held ≡ held_left ix left →
    Rewound ix n held ix' → Prepared pages ix n left ix'
prepared blocks per pages ix n left held ix' o can are r = record {
  records = r.records;
  counted = r.counted;
  newest = r.newest;
  spare = r.spare;
  held = ap held_of r.holds ∙ are;
  mapped = λ s h. mapped_at blocks per pages ix o n can.is_held s (get_or ix'.map s 0) (r.mapped s h);
}

-- The map, page by page.
module _ (records : List Record) (long : length records ≡ 2048) (n : ℕ) where
  abbrev at : ℕ → Record
  at k = get_or records k unused

  abbrev entry_at : ℕ → ℕ → ℕ
  entry_at s k = map_entry (found_below records n s k).page

  pub entry_none : (s : ℕ) → 65535 ≡ entry_at s 0
  unfolding found_below
  entry_none s = refl

  -- The birth found is that of the page in the map.
  births : (s k : ℕ) → k ≤ 2048 → (found_below records n s k).birth ≡ (at (entry_at s k)).birth
  unfolding found_below
  births s zero h = sym (ap (λ (r : Record). r.birth) (get_or_past records 65535 unused (omega arith)))
  births s (suc k) h =
      let f = found_below records n s k in
      cond_both (is_of n s (at k) && ltb f.birth (at k).birth) (record { page = Some (page_number k); birth = (at k).birth }) f (λ (g : Found). g.birth ≡ (at (map_entry g.page)).birth)
      (λ t. let e : k ≡ min k 65535 = omega arith in ap (λ j. (at j).birth) e)
      (λ t. births s k (omega arith))

  -- The same tests in another order.
  same_test : (v e l b : Bool) → (e && (v && (b && l))) ≡ ((v && (e && l)) && b)
  same_test true true true true = refl
  same_test true true true false = refl
  same_test true true false true = refl
  same_test true true false false = refl
  same_test true false l b = refl
  same_test false true l b = refl
  same_test false false l b = refl

  pub entry_more : (s k : ℕ) → k < 2048 → entered records n k s (entry_at s k) ≡ entry_at s (suc k)
  unfolding found_below
  entry_more s k h =
      let f = found_below records n s k in
      let r = at k in
      let t = ap (λ b. eqb r.sector s && is_born_within b n r) (sym (births s k (omega arith))) ∙ same_test (is_version r.kind) (eqb r.sector s) (leb r.birth n) (ltb f.birth r.birth) in
      ap (λ t. cond t k (entry_at s k)) t ∙ go (is_of n s r && ltb f.birth r.birth) f
    where
      go : (t : Bool) (f : Found) → cond t k (map_entry f.page) ≡ map_entry (cond t (record { page = Some (page_number k); birth = (at k).birth }) f).page
      go true f = omega arith
      go false f = refl
