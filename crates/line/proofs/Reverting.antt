-- A revert as an equation on sets of versions.
use Rattle.std.proofs.Common.{◌≡◌, ℕ, suc, ◌<◌, ◌≤◌, Bool, true, false, ◌&&◌, eqb, ltb, leb, ◌⊎◌, ◌↔◌, List, [], ◌∷◌, sym, refl, ◌∙◌, subst, inl, inr, arith}
use mathlib.Core.Option.{some}
use Rattle.std.specs.List.{AllByRecursion}
use Rattle.std.proofs.lemmas.Bool.Decides.{nat_tests}
use Rattle.std.proofs.lemmas.Bool.{eqb-true, eq-eqb, ltb-true, lt-ltb, le-ltb, leb-false, and_parts, and_from, and_right, cases_lt}
use Rattle.readings.specs.Versions.{Version, now, upto, of, keep, choose, first, youngest, needed, settle, Reading, leave}
use Rattle.readings.specs.Sorted.{In}
use Rattle.rules.specs.Calls.{}
use Rattle.readings.specs.Changes.{reverted, backed, present, in_state}
use Rattle.readings.proofs.Lists.{first_ext, first_of_keep, first_in, first_passes, all_of, all_in}
use Rattle.readings.proofs.Settle.{youngest_kept}
use Rattle.readings.proofs.Sorted.{desc_keep}
use Rattle.readings.proofs.Meaning.{of_true, true_of, first_highest, highest_first}
use Rattle.line.specs.Line.{Item, entry, mark, entries, line_of}
use Rattle.line.specs.Equation.{Present, InState, former, Domain, Range, PresentAfter, Equation, Falling, RevertEquation}
use Rattle.line.proofs.Order.{Falls, births_below}
use Rattle.line.proofs.Reached.{reached}

-- of a reading cut at n, the present version of a sector is the one in the state of n
present_cut : (h : ℕ → Bool) (n : ℕ) (r : Reading) (s : ℕ) → present (leave h (λ b. leb b n) r) s ≡ in_state r n s
unfolding settle
present_cut h n r s =
    let vs = keep (λ (v : Version). leb v.birth n) r.versions in
    youngest_kept (keep h r.held) (needed (keep h r.held) vs) vs (λ v i t. t) now s tt
    ∙ first_of_keep (of now s) (λ v. leb v.birth n) r.versions
    ∙ first_ext _ (of (upto n) s) r.versions (all_of _ r.versions (λ v. grind (arith, nat_tests)))

all_elem : {A : Type 0} (P : A → Type 0) (l : List A) → AllByRecursion P l → (x : A) → In x l → P x
all_elem P [] a x i = absurd i
all_elem P (y ∷ ys) a x (inl e) = subst P (sym e) a.0
all_elem P (y ∷ ys) a x (inr i) = all_elem P ys a.1 x i

-- v was replaced since n by one of the versions
module _ (n : ℕ) (v : Version) where
  abbrev Newer : List Version → Type 0
  Newer vs = (w : Version) × In w vs × (n < w.birth) × (first (λ u. eqb u.sector w.sector && ltb u.birth w.birth) vs ≡ some v)

  newer_more : (x : Version) (xs : List Version) → Falling (x ∷ xs) → Newer xs → Newer (x ∷ xs)
  unfolding first
  newer_more x xs d (w, i, since, e) = (w, inr i, since, rw (and_right (eqb x.sector w.sector) _ (le-ltb x.birth w.birth (let q = d.0 w i in omega arith))) e)

  -- x did, where v is the next of its sector
  newer_here : (x : Version) (xs : List Version) → Falling (x ∷ xs) → n < x.birth → youngest now x.sector xs ≡ some v → Newer (x ∷ xs)
  unfolding first
  newer_here x xs d since e = (
    x,
    inl refl,
    since,
    rw (and_right (eqb x.sector x.sector) _ (le-ltb x.birth x.birth (omega arith)))
        (first_ext _ (of now x.sector) xs (all_in _ xs (λ u i. let q = d.0 u i in grind (arith, nat_tests))) ∙ e),
  )

  -- the version of a state is the present one, or was replaced since
  same_or_newer : (s : ℕ) (vs : List Version) → Falling vs → youngest (upto n) s vs ≡ some v → (youngest now s vs ≡ some v) ⊎ Newer vs
  unfolding first
  same_or_newer s [] d h = inl h
  same_or_newer s (x ∷ xs) d h = go (eqb x.sector s) (leb x.birth n) refl refl (same_or_newer s xs d.1)
    where
      go : (a b : Bool) → eqb x.sector s ≡ a → leb x.birth n ≡ b → (youngest (upto n) s xs ≡ some v → (youngest now s xs ≡ some v) ⊎ Newer xs) →
          (choose (of now s x) x (youngest now s xs) ≡ some v) ⊎ Newer (x ∷ xs)
      go false b p q ih = elim (ih (rw p at h)) [ inl e ↦ inl (rw p e) | inr w ↦ inr (newer_more x xs d w) ]
      go true true p q ih = inl (rw p (rw (p, q) at h))
      go true false p q ih = elim (ih (rw (p, q) at h)) [
        | inl e ↦ inr (newer_here x xs d (leb-false x.birth n q) (rw (eqb-true x.sector s p) e))
        | inr w ↦ inr (newer_more x xs d w)
      ]

module _ (n : ℕ) (r : Reading) (d : Falling r.versions) (v : Version) where
  range_is : Range n r v ↔ (In v r.versions × (n < v.birth))
  range_is = (λ (o, u). (u.replaces.0, u.born_since), λ (i, h). (former r v, record { replaces = (i, refl); born_since = h }))

  same_or_replaced : InState n r v → Present r v ⊎ Domain n r v
  same_or_replaced h = elim (same_or_newer n v v.sector r.versions d h) [
    | inl e ↦ inl e
    | inr w ↦ inr (w.0, record { replaces = (w.1, w.3); born_since = w.2 })
  ]

  in_time : InState n r v → v.birth ≤ n
  in_time h = (of_true (upto n) v.sector v (first_passes (of (upto n) v.sector) r.versions v h)).1

  -- what w replaced is of its sector and older
  older : (w : Version) → former r w ≡ some v → (v.sector ≡ w.sector) × (v.birth < w.birth)
  older w h =
      let p = and_parts (eqb v.sector w.sector) (ltb v.birth w.birth) (first_passes _ r.versions v h) in
      (eqb-true v.sector w.sector p.0, ltb-true v.birth w.birth p.1)

  -- a version that is the youngest of more than the state has, and was not born since, stands in the state
  in_state_by : (p : Version → Bool) → first p r.versions ≡ some v → (Range n r v → ⊥) → ((w : Version) → of (upto n) v.sector w ≡ true → p w ≡ true) → InState n r v
  in_state_by p h out more = highest_first (of (upto n) v.sector) r.versions v d (first_in p r.versions v h) (true_of (upto n) v.sector v refl low)
      (λ w i t. first_highest p r.versions v d h w i (more w t))
    where
      low : v.birth ≤ n
      low = elim (cases_lt n v.birth) [ inl since ↦ absurd (out (range_is.1 (first_in p r.versions v h, since))) | inr le ↦ le ]

  in_state_from : Present r v ⊎ Domain n r v → (Range n r v → ⊥) → InState n r v
  in_state_from (inl h) out = in_state_by (of now v.sector) h out (λ w t. true_of now v.sector w (of_true (upto n) v.sector w t).0 tt)
  in_state_from (inr (w, u)) out = in_state_by _ u.replaces.1 out
      (λ x t. let o = older w u.replaces.1 in let q = of_true (upto n) v.sector x t in let since = u.born_since in let low = q.1 in
      and_from (eqb x.sector w.sector) (ltb x.birth w.birth) (eq-eqb x.sector w.sector (q.0 ∙ o.0)) (lt-ltb x.birth w.birth (omega arith)))

  not_present : Domain n r v → Present r v → ⊥
  not_present (w, u) h =
      let o = older w u.replaces.1 in
      let q = first_highest (of now v.sector) r.versions v d h w u.replaces.0 (true_of now v.sector w (sym o.0) tt) in
      let z = o.1 in omega arith

  equals : (r' : Reading) → present r' v.sector ≡ in_state r n v.sector → PresentAfter n r r' v
  equals r' e = (
    λ h. let i : InState n r v = sym e ∙ h in (same_or_replaced i, λ k. let a = in_time i in let b = (range_is.0 k).1 in omega arith),
    λ k. e ∙ in_state_from k.0 k.1,
  )

equation : (n : ℕ) (r : Reading) → Falling r.versions → Equation n r
equation n r d = record {
  after_revert = λ v. equals n r d v (reverted n r) (present_cut (λ m. leb m n) n r v.sector);
  after_back = λ v. equals n r d v (backed n r) (present_cut (λ m. ltb m n) n r v.sector);
  range_is_born_since = range_is n r d;
  kept_beyond_present = λ v. (λ h. (h.0, elim (same_or_replaced n r d v h.0) [ inl e ↦ absurd (h.1 e) | inr k ↦ k ]), λ h. (h.0, not_present n r d v h.1));
}

-- the births of every run fall
births_fall : (c : ℕ) (l : List Item) → Falls c l → Falling (entries l)
unfolding entries
births_fall c [] f = tt
births_fall c (entry v ∷ l) f = (λ w i. all_elem (λ x. x.birth < v.birth) (entries l) (births_below v.birth l f.1) w i, births_fall v.birth l f.1)
births_fall c (mark n ∷ l) f = births_fall n l f.1

pub revert_equation : RevertEquation
unfolding settle
revert_equation = record {
  on_readings = λ r d n h. equation n r d;
  on_runs = λ cap label es t run n h.
      let f = (reached cap label es t run).follows in
      equation n t.reading (subst Falling (sym f.versions_are) (desc_keep _ (entries (line_of es)) (births_fall (suc t.reading.clock) (line_of es) f.falls)));
}
