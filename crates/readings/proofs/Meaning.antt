use Rattle.std.proofs.Common.{◌≡◌, ℕ, suc, ◌≤◌, Bool, true, false, eqb, leb, ◌⊎◌, List, [], ◌∷◌, length, sym, refl, ap, ◌∙◌, inl, inr, arith}
use mathlib.Core.Option.{Option, none, some}
use Prim.Native.Nat.{compare, Ordering}
use Rattle.std.proofs.lemmas.Bool.{eqb-true, eq-eqb, leb-true, le-leb, and_parts, and_from}
use Rattle.readings.specs.Versions.{Version, Bound, now, upto, of, put, choose, first, is, youngest, youngest_of, keep, has, needed, settle}
use Rattle.readings.specs.Sorted.{In, placed, insert, sort}
use Rattle.readings.specs.Meaning.{Within, IsYoungest, YoungestMeans, NeededMeans, Once, CountedInPlace, SameVersions, WordsMean}
use Rattle.readings.proofs.Lists.{first_in, first_passes}
use Rattle.readings.proofs.Settle.{Counts, needed_at, youngest_needed}
use Rattle.readings.proofs.Sorted.{Desc, in_sort, sort_in, desc_sort}
use Rattle.readings.proofs.PageLaws.{pages_read}

pub of_true : (b : Bound) (s : ℕ) (v : Version) → of b s v ≡ true → (v.sector ≡ s) × Within b v.birth
of_true now s v h = (eqb-true v.sector s (and_parts (eqb v.sector s) true h).0, tt)
of_true (upto n) s v h = let r = and_parts (eqb v.sector s) (leb v.birth n) h in (eqb-true v.sector s r.0, leb-true v.birth n r.1)

pub true_of : (b : Bound) (s : ℕ) (v : Version) → v.sector ≡ s → Within b v.birth → of b s v ≡ true
true_of now s v e h = and_from (eqb v.sector s) true (eq-eqb v.sector s e) refl
true_of (upto n) s v e h = and_from (eqb v.sector s) (leb v.birth n) (eq-eqb v.sector s e) (le-leb v.birth n h)

-- the first of a falling list that passes a test is the youngest that does
pub first_highest : (p : Version → Bool) (l : List Version) (v : Version) → Desc l → first p l ≡ some v → (w : Version) → In w l → p w ≡ true → w.birth ≤ v.birth
unfolding first
first_highest p [] v d h w i t = absurd i
first_highest p (x ∷ xs) v d h w i t = go (p x) refl h i (first_highest p xs v d.1)
  where
    go : (b : Bool) → p x ≡ b → choose b x (first p xs) ≡ some v → In w (x ∷ xs) →
        (first p xs ≡ some v → (w : Version) → In w xs → p w ≡ true → w.birth ≤ v.birth) → w.birth ≤ v.birth
    go true e h (inl k) ih = let q : x ≡ v = cc in rw (k ∙ q) (omega arith)
    go true e h (inr k) ih = let q : x ≡ v = cc in let u = d.0 w k in let z : x.birth ≡ v.birth = ap (λ (y : Version). y.birth) q in omega arith
    go false e h (inl k) ih = let z : ◌≡◌ {A = ℕ} 0 1 = cc (ap p k) in absurd (omega arith)
    go false e h (inr k) ih = ih h w k t

pub highest_first : (p : Version → Bool) (l : List Version) (v : Version) → Desc l → In v l → p v ≡ true → ((w : Version) → In w l → p w ≡ true → w.birth ≤ v.birth) → first p l ≡ some v
unfolding first
highest_first p [] v d i t h = absurd i
highest_first p (x ∷ xs) v d i t h = go (p x) refl i (λ j. highest_first p xs v d.1 j t (λ w k. h w (inr k)))
  where
    go : (b : Bool) → p x ≡ b → In v (x ∷ xs) → (In v xs → first p xs ≡ some v) → choose b x (first p xs) ≡ some v
    go true e (inl k) ih = ap some (sym k)
    go true e (inr k) ih = let q = h x (inl refl) e in let u = d.0 v k in absurd (omega arith)
    go false e (inl k) ih = cc (ap p k)
    go false e (inr k) ih = ih k

youngest_means : YoungestMeans
youngest_means b s pages v a = (there, back)
  where
    there : youngest b s (sort pages) ≡ some v → IsYoungest b s pages v
    there h =
        let r = of_true b s v (first_passes (of b s) (sort pages) v h) in
        record {
          stands = in_sort pages v (first_in (of b s) (sort pages) v h);
          of_sector = r.0;
          in_time = r.1;
          none_younger = λ w i e t. first_highest (of b s) (sort pages) v (desc_sort pages) h w (sort_in pages w a i) (true_of b s w e t);
        }

    back : IsYoungest b s pages v → youngest b s (sort pages) ≡ some v
    back y = highest_first (of b s) (sort pages) v (desc_sort pages) (sort_in pages v a y.stands) (true_of b s v y.of_sector y.in_time)
        (λ w i t. let r = of_true b s w t in y.none_younger w (in_sort pages w i) r.0 r.1)

-- is it v
is_some : (v : Version) (o : Option Version) → is v o ≡ true → (w : Version) × (o ≡ some w) × (v.birth ≡ w.birth)
is_some v none h = let z : ◌≡◌ {A = ℕ} 0 1 = cc in absurd (omega arith)
is_some v (some w) h = (w, refl, eqb-true v.birth w.birth h)

pub needed_means : NeededMeans
needed_means held pages v a i = (λ h. let r = needed_at held (sort pages) v h in there r.0 r.1 r.2, back)
  where
    it : (b : Bound) → youngest_of (sort pages) v b ≡ true → IsYoungest b v.sector pages v
    it b h =
        let r = is_some v (youngest b v.sector (sort pages)) h in
        let e = a v r.0 i (in_sort pages r.0 (first_in (of b v.sector) (sort pages) r.0 r.1)) r.2 in
        (youngest_means b v.sector pages v a).0 (r.1 ∙ ap some (sym e))

    there : (b : Bound) → Counts held b → youngest_of (sort pages) v b ≡ true →
        IsYoungest now v.sector pages v ⊎ ((n : ℕ) × (has n held ≡ true) × IsYoungest (upto n) v.sector pages v)
    there now c h = inl (it now h)
    there (upto n) c h = inr (n, c, it (upto n) h)

    back : IsYoungest now v.sector pages v ⊎ ((n : ℕ) × (has n held ≡ true) × IsYoungest (upto n) v.sector pages v) → needed held (sort pages) v ≡ true
    back (inl y) = youngest_needed held (sort pages) now v.sector v tt ((youngest_means now v.sector pages v a).1 y)
    back (inr y) = youngest_needed held (sort pages) (upto y.0) v.sector v y.1 ((youngest_means (upto y.0) v.sector pages v a).1 y.2)

-- counting
insert_count : (p : Version → Bool) (v : Version) (l : List Version) → ((w : Version) → In w l → w.birth ≡ v.birth → ⊥) →
    length (keep p (insert v l)) ≡ length (keep p (v ∷ l))
unfolding keep insert
insert_count p v [] h = refl
insert_count p v (w ∷ ws) h = go (compare v.birth w.birth) refl (insert_count p v ws (λ u i. h u (inr i)))
  where
    go : (o : Ordering) → compare v.birth w.birth ≡ o → length (keep p (insert v ws)) ≡ length (put (p v) v (keep p ws)) →
        length (keep p (placed o v w ws (insert v ws))) ≡ length (put (p v) v (put (p w) w (keep p ws)))
    go Ordering.gt e ih = refl
    go Ordering.eq e ih = absurd (h w (inl refl) (grind arith))
    go Ordering.lt e ih = grind arith

sort_count : (p : Version → Bool) (l : List Version) → Once l → length (keep p (sort l)) ≡ length (keep p l)
unfolding keep sort
sort_count p [] o = refl
sort_count p (v ∷ vs) o = insert_count p v (sort vs) (λ w i. o.0 w (in_sort vs w i)) ∙ go (p v) (sort_count p vs o.1)
  where
    go : (b : Bool) → length (keep p (sort vs)) ≡ length (keep p vs) → length (put b v (keep p (sort vs))) ≡ length (put b v (keep p vs))
    go true e = ap suc e
    go false e = e

counted_in_place : CountedInPlace
unfolding settle
counted_in_place held pages o = sort_count (needed held (sort pages)) pages o

same_versions : SameVersions
same_versions label clock held pages others a f g = pages_read.suffice label clock held pages others a (g, λ v i t. f v i)

pub words_mean : WordsMean
words_mean = record { youngest_means = youngest_means; needed_means = needed_means; counted_in_place = counted_in_place; same_versions = same_versions }
