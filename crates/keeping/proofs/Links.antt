-- Need, by a record's birth and link.
use Rattle.std.proofs.Common.{◌≡◌, ℕ, ◌<◌, ◌≤◌, Bool, true, false, ◌&&◌, ◌||◌, eqb, ltb, leb, ◌⊎◌, List, [], ◌∷◌, MatchBool, sym, refl, ap, ◌∙◌, subst, inl, inr, arith}
use mathlib.Core.Option.{some}
use Rattle.std.proofs.lemmas.Bool.Decides.{when_true, when_false}
use Rattle.std.proofs.lemmas.Bool.{cases_lt, cases_eq, eqb-true, leb-true, ltb-true, eq-eqb, ne_eqb, le-leb, lt-ltb, and_parts, and_from, or_cases, or_left, or_right, both_ways}
use Rattle.readings.specs.Versions.{Version, Bound, now, upto, of, keep, any, choose, first, has, needed}
use Rattle.readings.specs.Sorted.{In, sort, Apart, Enough}
use Rattle.readings.specs.Meaning.{Within, IsYoungest}
use Rattle.readings.specs.Links.{IsLast, IsLink, Linked, stays_by, Among, Cuts, StaysIsNeed}
use Rattle.readings.proofs.Settle.{Counts, any_has, has_any, youngest_needed}
use Rattle.readings.proofs.Sorted.{in_keep, keep_in, sort_in}
use Rattle.readings.proofs.Meaning.{needed_means, words_mean}

pub same_bool : (a b : Bool) → (a ≡ true → b ≡ true) → (b ≡ true → a ≡ true) → a ≡ b
same_bool a b f g = grind arith

pub when_of_true : (b : Bool) (P Q : Type 0) → b ≡ true → P → MatchBool b P Q
when_of_true b P Q e x = subst (λ z. MatchBool z P Q) (sym e) x

pub when_of_false : (b : Bool) (P Q : Type 0) → b ≡ false → Q → MatchBool b P Q
when_of_false b P Q e x = subst (λ z. MatchBool z P Q) (sym e) x

module _ (all held : List ℕ) (limit : ℕ) (vs : List Version) (v : Version) (t : ℕ) (apart : Apart vs) (stands : In v vs)
    (linked : Linked all vs v t) (among : Among held limit all) (cuts : Cuts limit all vs) where
  abbrev early : Version → Bool
  early w = leb w.birth limit

  abbrev test : ℕ → Bool
  test h = leb v.birth h && ltb h t

  apart_early : Apart (keep early vs)
  apart_early x y i j e = apart x y (in_keep early vs x i).0 (in_keep early vs y j).0 e

  -- The present that the limit leaves.
  module _ (low : v.birth ≤ limit) where
    in_early : In v (keep early vs)
    in_early = keep_in early vs v stands (le-leb v.birth limit low)

    abbrev Present : Type 0
    Present = IsYoungest now v.sector (keep early vs) v

    abbrev At : ℕ → Type 0
    At h = IsYoungest (upto h) v.sector (keep early vs) v

    -- Whoever looks up to n, n at most the limit, sees v where it has no link, or one above n.
    sees : (n : ℕ) → (t ≡ 0) ⊎ (n < t) → (w : Version) → In w vs → w.sector ≡ v.sector → w.birth ≤ n → w.birth ≤ v.birth
    sees n (inl z) w i e l = when_true (IsLast vs v) (IsLink all vs v t) (eq-eqb t 0 z) linked w i e
    sees n (inr h) w i e l = elim (cases_eq t 0) [
      | inl z ↦ absurd (omega arith)
      | inr nz ↦ elim (cases_lt v.birth w.birth) [
        | inr a ↦ a
        | inl a ↦ let q = (when_false (IsLast vs v) (IsLink all vs v t) (ne_eqb t 0 nz) linked).none_between w i e a in absurd (omega arith)
      ]
    ]

    -- And who looks up to a held number from the link on does not.
    unseen : (h : ℕ) → (t ≡ 0 → ⊥) → has h all ≡ true → t ≤ h → h ≤ limit → (w : Version) × In w (keep early vs) × (w.sector ≡ v.sector) × (v.birth < w.birth) × (w.birth ≤ h)
    unseen h nz i l m =
        let r = (when_false (IsLast vs v) (IsLink all vs v t) (ne_eqb t 0 nz) linked).seen h i l in
        let q = r.4 in
        (r.0, keep_in early vs r.0 r.1 (le-leb r.0.birth limit (omega arith)), r.2, r.3, r.4)

    seen_now : (t ≡ 0) ⊎ (limit < t) → needed held (sort (keep early vs)) v ≡ true
    seen_now o = (needed_means held (keep early vs) v apart_early in_early).1
        (inl (record {
          stands = in_early;
          of_sector = refl;
          in_time = tt;
          none_younger = λ w i e _. let r = in_keep early vs w i in sees limit o w r.0 e (leb-true w.birth limit r.1);
        }))

    seen_at : (h : ℕ) → has h held ≡ true → test h ≡ true → needed held (sort (keep early vs)) v ≡ true
    seen_at h i p =
        let q = and_parts (leb v.birth h) (ltb h t) p in
        (needed_means held (keep early vs) v apart_early in_early).1
        (inr (
          h,
          i,
          record {
            stands = in_early;
            of_sector = refl;
            in_time = leb-true v.birth h q.0;
            none_younger = λ w j e l. sees h (inr (ltb-true h t q.1)) w (in_keep early vs w j).0 e l;
          },
        ))

    there : (eqb t 0 || (ltb limit t || any test held)) ≡ true → needed held (sort (keep early vs)) v ≡ true
    there p = elim (or_cases (eqb t 0) (ltb limit t || any test held) p) [
      | inl a ↦ seen_now (inl (eqb-true t 0 a))
      | inr a ↦ elim (or_cases (ltb limit t) (any test held) a) [
        | inl b ↦ seen_now (inr (ltb-true limit t b))
        | inr b ↦ let r = has_any test held b in seen_at r.0 r.1 r.2
      ]
    ]

    by_now : Present → (eqb t 0 || (ltb limit t || any test held)) ≡ true
    by_now y = elim (cases_eq t 0) [
      | inl z ↦ or_left (eqb t 0) (ltb limit t || any test held) (eq-eqb t 0 z)
      | inr nz ↦ or_right (eqb t 0) (ltb limit t || any test held) (elim (cases_lt limit t) [
        | inl a ↦ or_left (ltb limit t) (any test held) (lt-ltb limit t a)
        | inr a ↦
            let link = when_false (IsLast vs v) (IsLink all vs v t) (ne_eqb t 0 nz) linked in
            let u = link.replaced in
            let later = link.later in
            let from-t : t ≤ u.0.birth = u.3 in
            elim (cases_lt limit u.0.birth) [
              | inl b ↦
                  let r = unseen limit nz (cuts u.0 u.1 b) a (omega arith) in
                  let q = y.none_younger r.0 r.1 r.2 tt in
                  let l = r.3 in
                  absurd (omega arith)
              | inr b ↦
                  let q = y.none_younger u.0 (keep_in early vs u.0 u.1 (le-leb u.0.birth limit b)) u.2 tt in
                  absurd (omega arith)
            ]
      ])
    ]

    by_held : (h : ℕ) → has h held ≡ true → At h → (eqb t 0 || (ltb limit t || any test held)) ≡ true
    by_held h i y = elim (cases_eq t 0) [
      | inl z ↦ or_left (eqb t 0) (ltb limit t || any test held) (eq-eqb t 0 z)
      | inr nz ↦ or_right (eqb t 0) (ltb limit t || any test held) (or_right (ltb limit t) (any test held) (elim (cases_lt h t) [
        | inl a ↦ any_has test held h i (and_from (leb v.birth h) (ltb h t) (le-leb v.birth h y.in_time) (lt-ltb h t a))
        | inr a ↦
            let m = among h i in
            let r = unseen h nz m.0 a m.1 in
            let q = y.none_younger r.0 r.1 r.2 r.4 in
            let l = r.3 in
            absurd (omega arith)
      ]))
    ]

    back : needed held (sort (keep early vs)) v ≡ true → (eqb t 0 || (ltb limit t || any test held)) ≡ true
    back p = elim ((needed_means held (keep early vs) v apart_early in_early).0 p) [ inl y ↦ by_now y | inr y ↦ by_held y.0 y.1 y.2 ]

  and_like : (a x y : Bool) → (a ≡ true → x ≡ y) → (a && x) ≡ (a && y)
  and_like true x y f = f refl
  and_like false x y f = refl

  pub stays_need : stays_by held limit v.birth t ≡ (leb v.birth limit && needed held (sort (keep early vs)) v)
  stays_need = and_like (leb v.birth limit) _ _ (λ p. let low = leb-true v.birth limit p in same_bool _ _ (there low) (back low))

pub stays_is_need : StaysIsNeed
stays_is_need all held limit vs v t apart stands linked among cuts = stays_need all held limit vs v t apart stands linked among cuts

-- Links stay true where versions that are not needed leave.
when_like : (b : Bool) (P Q P' Q' : Type 0) → (P → P') → (Q → Q') → MatchBool b P Q → MatchBool b P' Q'
when_like true P Q P' Q' f g x = f x
when_like false P Q P' Q' f g x = g x

first_some : {A : Type 0} (p : A → Bool) (l : List A) (x : A) → In x l → p x ≡ true → (y : A) × (first p l ≡ some y)
unfolding first
first_some p [] x h t = absurd h
first_some p (y ∷ ys) x h t = go (p y) refl h (λ i. first_some p ys x i t)
  where
    go : (b : Bool) → p y ≡ b → In x (y ∷ ys) → (In x ys → (z : _) × (first p ys ≡ some z)) → (z : _) × (choose b y (first p ys) ≡ some z)
    go true e h ih = (y, refl)
    go false e (inl k) ih = absurd (both_ways (p y) e (ap p (sym k) ∙ t))
    go false e (inr i) ih = ih i

of_sector_in : (b : Bound) (w : Version) → Within b w.birth → of b w.sector w ≡ true
of_sector_in now w h = and_from (eqb w.sector w.sector) true (eq-eqb w.sector w.sector refl) refl
of_sector_in (upto n) w h = and_from (eqb w.sector w.sector) (leb w.birth n) (eq-eqb w.sector w.sector refl) (le-leb w.birth n h)

module _ (held : List ℕ) (vs some_of : List Version) (apart : Apart vs) (enough : Enough held vs some_of) where
  -- The youngest of a sector, within a bound that counts, stands.
  pub youngest_left : (b : Bound) → Counts held b → (w : Version) → In w vs → Within b w.birth →
      (u : Version) × In u some_of × (u.sector ≡ w.sector) × Within b u.birth × (w.birth ≤ u.birth)
  youngest_left b c w i h =
      let r = first_some (of b w.sector) (sort vs) w (sort_in vs w apart i) (of_sector_in b w h) in
      let y = (words_mean.youngest_means b w.sector vs r.0 apart).0 r.1 in
      let n = youngest_needed held (sort vs) b w.sector r.0 c r.1 in
      (r.0, enough.1 r.0 y.stands n, y.of_sector, y.in_time, y.none_younger w i refl h)

  pub linked_left : (v : Version) (t : ℕ) → Linked held vs v t → Linked held some_of v t
  linked_left v t = when_like (eqb t 0) (IsLast vs v) (IsLink held vs v t) (IsLast some_of v) (IsLink held some_of v t)
      (λ last w i e. last w (enough.0 w i) e)
      (λ link. record {
        later = link.later;
        none_between = λ w i e h. link.none_between w (enough.0 w i) e h;
        replaced =
            let r = link.replaced in
            let u = youngest_left now tt r.0 r.1 tt in
            let a = r.3 in
            let b = u.4 in
            (u.0, u.1, u.2 ∙ r.2, omega arith);
        seen = λ h i l.
            let r = link.seen h i l in
            let u = youngest_left (upto h) i r.0 r.1 r.4 in
            let a = r.3 in
            let b = u.4 in
            (u.0, u.1, u.2 ∙ r.2, omega arith, u.3);
      })
