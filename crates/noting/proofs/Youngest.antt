-- The youngest versions, by the map and by the records.
use Rattle.std.proofs.Common.{◌≡◌, ℕ, zero, suc, ◌+◌, ◌<◌, ◌≤◌, true, false, cond, ◌&&◌, eqb, ltb, leb, List, [], length, get_or, Some, None, Option, sym, refl, ap, ◌∙◌, subst, inl, inr, add-one, arith}
use mathlib.Core.Option as opt
use Rattle.std.proofs.lemmas.Bool.{cases_eq, lt-ltb, le-ltb, ltb-true, ltb-false, eqb-true, leb-true, eq-eqb, le-leb, and_parts, and_from, and_cases, both_ways, cond_both, cond-false, and_right}
use Rattle.std.proofs.lemmas.Bool.Decides.{when_true, when_false}
use Rattle.chip.specs.declared.PageNumber.{PageNumber}
use Rattle.chip.specs.Pages.{Page}
use Rattle.limits.specs.Values.{held_of}
use Rattle.readings.specs.Versions.{Content, bytes, deleted, Version, Bound, now, upto, youngest, has, needed, settle}
use Rattle.readings.specs.Sorted.{In, sort, reading_of}
use Rattle.readings.specs.Sayings.{Saying, nothing, version, register, bad, said, sayings}
use Rattle.readings.specs.Reading.{versions, latest, held_by, reading, Told}
use Rattle.readings.specs.Meaning.{Within, IsYoungest}
use Rattle.readings.specs.Changes.{present, in_state}
use Rattle.readings.proofs.Settle.{Counts, youngest_kept}
use Rattle.readings.proofs.Meaning.{words_mean}
use Rattle.tables.specs.declared.index.Index.{Index}
use Rattle.tables.specs.declared.types.Record.{Record}
use Rattle.tables.specs.Records.{unused, kind_of, Agrees}
use Rattle.tables.specs.Tells.{HasLast}
use Rattle.noting.specs.Consistent.{Consistent}
use Rattle.noting.specs.Lookups.{page_number, Shows, present_page, is_version, is_of, Found, found_below, page_in_state}
use Rattle.tables.proofs.Said.{at_says, says_at, in_versions, versions_in}
use Rattle.tables.proofs.Needs.{any_reverse}
use Rattle.noting.proofs.Added.{apart}

-- The reading has the youngest versions within each bound that counts.
pub reading_youngest : (xs : List Saying) (b : Bound) (s : ℕ) → Counts (held_by xs) b → youngest b s (reading xs).versions ≡ youngest b s (sort (versions xs))
unfolding reading reading_of settle
reading_youngest xs b s c = youngest_kept (held_by xs) (needed (held_by xs) (sort (versions xs))) (sort (versions xs)) (λ v i n. n) b s c

module _ (xs : List Saying) (told : Told xs) (b : Bound) (s : ℕ) (counts : Counts (held_by xs) b) where
  pub reads_some : (v : Version) → IsYoungest b s (versions xs) v → youngest b s (reading xs).versions ≡ opt.some v
  reads_some v y = reading_youngest xs b s counts ∙ (words_mean.youngest_means b s (versions xs) v (apart xs told)).1 y

  pub reads_none : ((v : Version) → In v (versions xs) → v.sector ≡ s → Within b v.birth → ⊥) → youngest b s (reading xs).versions ≡ opt.none
  reads_none none = reading_youngest xs b s counts ∙ go (youngest b s (sort (versions xs))) refl
    where
      go : (o : opt.Option Version) → youngest b s (sort (versions xs)) ≡ o → o ≡ opt.none
      go opt.none e = refl
      go (opt.some v) e = let y = (words_mean.youngest_means b s (versions xs) v (apart xs told)).0 e in absurd (none v y.stands y.of_sector y.in_time)

module _ (blocks per : ℕ) (pages : List Page) (ix : Index) (con : Consistent blocks per pages ix) where
  abbrev xs : List Saying
  xs = sayings pages

  in_xs : (k : ℕ) (v : Version) → k < length pages → said (get_or pages k []) ≡ version v → In v (versions xs)
  in_xs k v h e = versions_in xs v (at_says pages (version v) k h e)

  pub shows_present : (s : ℕ) → s < 2048 → Shows pages (present_page ix s) (present (reading xs) s)
  shows_present s h =
      let m = get_or ix.map s 0 in
      cond_both (ltb m ix.pages) (Some (page_number m)) None (λ r. Shows pages r (present (reading xs) s))
      (λ b.
      let inside : m < length pages = let q = ltb-true m ix.pages b in let e = con.tells.counted in omega arith in
      let f : HasLast pages s m = when_true (HasLast pages s m) _ (lt-ltb m (length pages) inside) (con.tells.mapped s h) in
      let y : IsYoungest now s (versions xs) f.last =
      record { stands = in_xs m f.last inside f.stands; of_sector = f.of_sector; in_time = tt; none_younger = λ w i e t. f.youngest w i (e ∙ sym f.of_sector) } in
      (f.last, reads_some xs con.told now s tt f.last y, inside, f.stands))
      (λ b.
      let past : length pages ≤ m = let q = ltb-false m ix.pages b in let e = con.tells.counted in omega arith in
      let f : (w : Version) → In w (versions xs) → w.sector ≡ s → ⊥ = when_false (HasLast pages s m) _ (le-ltb m (length pages) past) (con.tells.mapped s h) in
      reads_none xs con.told now s tt (λ v i e t. f v i e))

-- A record that agrees with a version is one.
pub version_is : (v : Version) (r : Record) → Agrees (version v) r → is_version r.kind ≡ true
version_is v r a = ap is_version a.0 ∙ go v.content
  where
    go : (c : Content) → is_version (kind_of c) ≡ true
    go (bytes bs) = refl
    go deleted = refl

-- And back.
pub is_version_lem : (y : Saying) (r : Record) → Agrees y r → is_version r.kind ≡ true → (v : Version) × (y ≡ version v) × (r.sector ≡ v.sector) × (r.birth ≡ v.birth)
is_version_lem nothing r a t = absurd (both_ways (is_version r.kind) (ap is_version a) t)
is_version_lem (version v) r a t = (v, refl, a.1, a.2)
is_version_lem (register g) r a t = absurd (both_ways (is_version r.kind) (ap is_version a.0) t)
is_version_lem (bad c) r a t = absurd a

-- The search over the records.
module _ (records : List Record) (n s : ℕ) where
  abbrev at : ℕ → Record
  at k = get_or records k unused

  -- The page found is one of the sector with that birth.
  abbrev Where : ℕ → Option PageNumber → ℕ → Type 0
  Where i None b = b ≡ 0
  Where i (Some p) b = (p.0 < i) × (is_of n s (at p.0) ≡ true) × ((at p.0).birth ≡ b)

  -- And no other is younger.
  abbrev Best : ℕ → Found → Type 0
  Best i f = Where i f.page f.birth × ((j : ℕ) → j < i → is_of n s (at j) ≡ true → (at j).birth ≤ f.birth)

  where_more : (i : ℕ) (o : Option PageNumber) (b : ℕ) → Where i o b → Where (suc i) o b
  where_more i None b w = w
  where_more i (Some p) b w = (let q = w.0 in omega arith, w.1, w.2)

  best : (i : ℕ) → Best i (found_below records n s i)
  unfolding found_below
  best zero = (refl, λ j h t. absurd (omega arith))
  best (suc i) =
      let ih = best i in
      let f = found_below records n s i in
      cond_both (is_of n s (at i) && ltb f.birth (at i).birth) (record { page = Some (page_number i); birth = (at i).birth }) f (λ (g : Found). Best (suc i) g)
      (λ t.
      let p = and_parts (is_of n s (at i)) (ltb f.birth (at i).birth) t in
      let l = ltb-true f.birth (at i).birth p.1 in
      ((omega arith, p.0, refl), λ j h q. elim (cases_eq j i) [ inl e ↦ rw e (omega arith) | inr ne ↦ let z = ih.1 j (omega arith) q in omega arith ]))
      (λ t. (
        where_more i f.page f.birth ih.0,
        λ j h q. elim (cases_eq j i) [
          | inl e ↦ elim (and_cases (is_of n s (at i)) (ltb f.birth (at i).birth) t) [
            | inl u ↦ absurd (both_ways (is_of n s (at i)) u (ap (λ k. is_of n s (at k)) (sym e) ∙ q))
            | inr u ↦ let z = ltb-false f.birth (at i).birth u in rw e (omega arith)
          ]
          | inr ne ↦ ih.1 j (omega arith) q
        ],
      ))

module _ (blocks per : ℕ) (pages : List Page) (ix : Index) (con : Consistent blocks per pages ix) (n s : ℕ) (held : has n (held_of ix.held) ≡ true) where
  abbrev ys : List Saying
  ys = sayings pages

  abbrev rec : ℕ → Record
  rec k = get_or ix.records k unused

  counts : has n (held_by ys) ≡ true
  counts = any_reverse (eqb n) (latest ys).held ∙ ap (has n) (sym con.tells.held) ∙ held

  -- A version of the sector up to n is found by its record.
  by_record : (k : ℕ) (v : Version) → k < length pages → said (get_or pages k []) ≡ version v → v.sector ≡ s → v.birth ≤ n → (is_of n s (rec k) ≡ true) × ((rec k).birth ≡ v.birth)
  by_record k v h e f g =
      let a : Agrees (version v) (rec k) = subst (λ y. Agrees y (rec k)) e (con.tells.agree k h) in
      let b : (rec k).birth ≡ v.birth = a.2 in (
        and_from (is_version (rec k).kind) (eqb (rec k).sector s && leb (rec k).birth n) (version_is v (rec k) a)
            (and_from (eqb (rec k).sector s) (leb (rec k).birth n) (eq-eqb (rec k).sector s (a.1 ∙ f)) (le-leb (rec k).birth n (omega arith))),
        b,
      )

  below : (f : Found) → Best ix.records n s ix.pages f → (v : Version) → In v (versions ys) → v.sector ≡ s → v.birth ≤ n → v.birth ≤ f.birth
  below f b v i e l =
      let p = says_at pages (version v) (in_versions ys v i) in
      let r = by_record p.0 v p.1 p.2 e l in
      let q = b.1 p.0 (let c = con.tells.counted in let d = p.1 in omega arith) r.0 in
      let z = r.1 in
      omega arith

  dated : (v : Version) → In v (versions ys) → 0 < v.birth
  dated v i = elim (con.told.dated (version v) (in_versions ys v i)) [ inl e ↦ let z : ◌≡◌ {A = ℕ} 0 1 = cc in absurd (omega arith) | inr h ↦ h ]

  shows_found : (o : Option PageNumber) (b : ℕ) → Best ix.records n s ix.pages (record { page = o; birth = b }) → Shows pages o (in_state (reading ys) n s)
  shows_found None b w = reads_none ys con.told (upto n) s counts (λ v i e t. let q = below (record { page = None; birth = b }) w v i e t in let z = w.0 in let d = dated v i in omega arith)
  shows_found (Some p) b w =
      let k = p.0 in
      let there = w.0 in
      let inside : k < length pages = let c = con.tells.counted in let d = there.0 in omega arith in
      let t = and_parts (is_version (rec k).kind) (eqb (rec k).sector s && leb (rec k).birth n) there.1 in
      let u = and_parts (eqb (rec k).sector s) (leb (rec k).birth n) t.1 in
      let r = is_version_lem (said (get_or pages k [])) (rec k) (con.tells.agree k inside) t.0 in
      let v = r.0 in
      let born : (rec k).birth ≡ v.birth = r.3 in
      let same : (rec k).birth ≡ b = there.2 in
      let low = leb-true (rec k).birth n u.1 in
      let y : IsYoungest (upto n) s (versions ys) v =
      record {
        stands = versions_in ys v (at_says pages (version v) k inside r.1);
        of_sector = sym r.2 ∙ eqb-true (rec k).sector s u.0;
        in_time = omega arith;
        none_younger = λ x i e l. let q = below (record { page = Some p; birth = b }) w x i e l in omega arith;
      } in
      (v, reads_some ys con.told (upto n) s counts v y, inside, r.1)

  pub shows_in_state : Shows pages (page_in_state ix n s) (in_state (reading ys) n s)
  shows_in_state =
      let f = found_below ix.records n s ix.pages in
      shows_found f.page f.birth (best ix.records n s ix.pages)

-- One turn of the search.
module _ (records : List Record) (n s i : ℕ) (r : Record) (is : r ≡ get_or records i unused) (f : Found) (so_far : f ≡ found_below records n s i) where
  found_step : found_below records n s (i + 1) ≡ cond (is_of n s r && ltb f.birth r.birth) (record { page = Some (page_number i); birth = r.birth }) f
  unfolding found_below
  found_step = ap (found_below records n s) (add-one i) ∙ rw (← so_far, ← is) refl

  pub found_here : is_of n s r ≡ true → f.birth < r.birth → ◌≡◌ {A = Found} (record { page = Some (page_number i); birth = r.birth }) (found_below records n s (i + 1))
  found_here t l = sym (found_step ∙ rw (t, lt-ltb f.birth r.birth l) refl)

  pub found_other : is_of n s r ≡ false → f ≡ found_below records n s (i + 1)
  found_other t = sym (found_step ∙ rw t refl)

  pub found_older : r.birth ≤ f.birth → f ≡ found_below records n s (i + 1)
  found_older l = sym (found_step ∙ cond-false (is_of n s r && ltb f.birth r.birth) _ f (and_right (is_of n s r) (ltb f.birth r.birth) (le-ltb f.birth r.birth l)))
