-- The links, once a version more stands.
use Rattle.std.proofs.Common.{◌≡◌, ℕ, ◌<◌, ◌≤◌, true, eqb, ◌⊎◌, List, ◌∷◌, MatchBool, sym, refl, ap, ◌∙◌, subst, inl, inr, arith}
use Rattle.std.proofs.lemmas.Bool.{eqb-true, cases_Bool, ne_eqb}
use Rattle.std.proofs.lemmas.Bool.Decides.{when_true, when_false}
use Rattle.readings.specs.Versions.{Version, has}
use Rattle.readings.specs.Sorted.{In}
use Rattle.readings.specs.Links.{IsLast, IsLink, Linked}

-- A link is 0 or not.
pub cases_link : (held : List ℕ) (vs : List Version) (w : Version) (t : ℕ) → Linked held vs w t → ((t ≡ 0) × IsLast vs w) ⊎ IsLink held vs w t
cases_link held vs w t l = elim (cases_Bool (eqb t 0)) [
  | inl e ↦ inl (eqb-true t 0 e, when_true (IsLast vs w) (IsLink held vs w t) e l)
  | inr e ↦ inr (when_false (IsLast vs w) (IsLink held vs w t) e l)
]

pub last_linked : (held : List ℕ) (vs : List Version) (w : Version) → IsLast vs w → Linked held vs w 0
last_linked held vs w l = l

pub link_linked : (held : List ℕ) (vs : List Version) (w : Version) (t : ℕ) → IsLink held vs w t → Linked held vs w t
link_linked held vs w t l =
    let late = l.later in
    subst (λ b. MatchBool b (IsLast vs w) (IsLink held vs w t)) (sym (ne_eqb t 0 (λ e. omega arith))) l

-- The version v is younger than all others.
module _ (held : List ℕ) (vs : List Version) (v : Version) (old : (w : Version) → In w vs → w.birth < v.birth) where
  pub new_last : IsLast (v ∷ vs) v
  new_last w (inl e) s = let q : w.birth ≡ v.birth = ap (λ (u : Version). u.birth) e in omega arith
  new_last w (inr i) s = let q = old w i in omega arith

  -- The youngest of another sector.
  pub last_stays : (w : Version) → (v.sector ≡ w.sector → ⊥) → IsLast vs w → IsLast (v ∷ vs) w
  last_stays w ne l u (inl e) s = absurd (ne (sym (ap (λ (u : Version). u.sector) e) ∙ s))
  last_stays w ne l u (inr i) s = l u i s

  -- What v replaces.
  pub last_replaced : (w : Version) → In w vs → v.sector ≡ w.sector → IsLast vs w → IsLink held (v ∷ vs) w v.birth
  last_replaced w i s l =
      record {
        later = old w i;
        none_between = λ u j e b. elim j [ inl q ↦ let z : u.birth ≡ v.birth = ap (λ (u : Version). u.birth) q in omega arith | inr q ↦ let z = l u q e in absurd (omega arith) ];
        replaced = (v, inl refl, s, omega arith);
        seen = λ h t b. (v, inl refl, s, old w i, b);
      }

  pub link_stays : (w : Version) (t : ℕ) → IsLink held vs w t → IsLink held (v ∷ vs) w t
  link_stays w t l =
      let r = l.replaced in
      let q = old r.0 r.1 in
      let p : t ≤ r.0.birth = r.3 in
      record {
        later = l.later;
        none_between = λ u j e b. elim j [ inl z ↦ let y : u.birth ≡ v.birth = ap (λ (u : Version). u.birth) z in omega arith | inr z ↦ l.none_between u z e b ];
        replaced = (r.0, inr r.1, r.2, p);
        seen = λ h a b. let y = l.seen h a b in (y.0, inr y.1, y.2, y.3, y.4);
      }

-- What a link says turns on which versions stand, and not on their order.
module _ (held : List ℕ) (vs ws : List Version) (there : (u : Version) → In u vs → In u ws) (back : (u : Version) → In u ws → In u vs) where
  pub last_like : (w : Version) → IsLast vs w → IsLast ws w
  last_like w l u i s = l u (back u i) s

  pub link_like : (w : Version) (t : ℕ) → IsLink held vs w t → IsLink held ws w t
  link_like w t l =
      record {
        later = l.later;
        none_between = λ u i. l.none_between u (back u i);
        replaced = let r = l.replaced in (r.0, there r.0 r.1, r.2, r.3);
        seen = λ h a b. let y = l.seen h a b in (y.0, there y.0 y.1, y.2, y.3, y.4);
      }

  pub linked_like : (w : Version) (t : ℕ) → Linked held vs w t → Linked held ws w t
  linked_like w t l = elim (cases_link held vs w t l) [
    | inl p ↦ subst (λ t. Linked held ws w t) (sym p.0) (last_like w p.1)
    | inr p ↦ link_linked held ws w t (link_like w t p)
  ]

-- Other held numbers: each was held before, or no version is younger.
module _ (held fewer : List ℕ) (vs : List Version) (known : (h : ℕ) → has h fewer ≡ true → (has h held ≡ true) ⊎ ((w : Version) → In w vs → w.birth ≤ h)) where
  pub link_held : (w : Version) (t : ℕ) → IsLink held vs w t → IsLink fewer vs w t
  link_held w t l =
      record {
        later = l.later;
        none_between = l.none_between;
        replaced = l.replaced;
        seen = λ h a b. elim (known h a) [
          | inl p ↦ l.seen h p b
          | inr p ↦
              let r = l.replaced in
              let late = l.later in
              let q : t ≤ r.0.birth = r.3 in
              (r.0, r.1, r.2, omega arith, p r.0 r.1)
        ];
      }

  pub linked_held : (w : Version) (t : ℕ) → Linked held vs w t → Linked fewer vs w t
  linked_held w t l = elim (cases_link held vs w t l) [
    | inl p ↦ subst (λ t. Linked fewer vs w t) (sym p.0) p.1
    | inr p ↦ link_linked fewer vs w t (link_held w t p)
  ]
