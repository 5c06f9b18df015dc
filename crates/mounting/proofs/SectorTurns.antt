-- The map of sectors, page by page.
use Rattle.std.proofs.Common.{◌≡◌, ℕ, ◌+◌, ◌<◌, List, length, get_or, set, replicate, Some, None, Option, sym, ap, ◌∙◌, subst, inl, inr, ⊎_elim, arith}
use Rattle.std.proofs.lemmas.List.{get_or-set_same, get_or-set_other, get_or-replicate, get_or_read}
use Rattle.std.proofs.lemmas.Bool.{cases_eq}
use Rattle.limits.specs.declared.types.Version.{Version}
use Rattle.layout.specs.declared.pages.Tag.{Tag}
use Rattle.layout.specs.declared.pages.Tag.TheVariants as tag
use Rattle.tables.specs.Records.{unused}
use Rattle.tables.specs.declared.types.Record.{Record}
use Rattle.mounting.specs.Tagged.{version_in}
use Rattle.mounting.specs.Entries.{LastAt, Entry}

abbrev pub Entries : List Tag → List Record → ℕ → List ℕ → Type 0
Entries ts rs i map = (s : ℕ) → s < 2048 → Entry ts rs i s (get_or map s 0)

pub entries_none : (ts : List Tag) (rs : List Record) (n s : ℕ) → s < n → Entry ts rs 0 s (get_or (replicate n 65535) s 0)
entries_none ts rs n s h = inr (get_or-replicate n s 65535 0 h, λ k l. absurd (omega arith))

module _ (ts : List Tag) (rs : List Record) (i : ℕ) where
  before : (k : ℕ) → k < i + 1 → (k ≡ i → ⊥) → k < i
  before k h n = omega arith

  -- a sector without a last version at i keeps its entry
  keeps : (s m : ℕ) → (LastAt ts rs s i → ⊥) → Entry ts rs i s m → Entry ts rs (i + 1) s m
  keeps s m not (inl h) = inl (let q = h.0 in omega arith, h.1)
  keeps s m not (inr h) = inr (h.0, λ k l last. ⊎_elim (λ e. not (subst (LastAt ts rs s) e last)) (λ n. h.1 k (before k l n) last) (cases_eq k i))

  module _ (t : Tag) (lt : i < length ts) (at : t ≡ get_or ts i t) (map : List ℕ) (inv : Entries ts rs i map) where
    here : version_in (get_or ts i tag.Erased) ≡ version_in t
    here = ap version_in (sym (get_or_read ts i t lt at tag.Erased))

    pub entries_other : None ≡ version_in t → Entries ts rs (i + 1) map
    entries_other e s h = keeps s (get_or map s 0) (λ last. let d : ◌≡◌ {A = Option Version} None (Some last.0) = e ∙ sym here ∙ last.1 in let z : ◌≡◌ {A = ℕ} 0 1 = cc in absurd (omega arith)) (inv s h)

    pub entries_replaced : ((get_or rs i unused).link ≡ 0 → ⊥) → Entries ts rs (i + 1) map
    entries_replaced n s h = keeps s (get_or map s 0) (λ last. n last.3) (inv s h)

    pub entries_last : (v : Version) → length map ≡ 2048 → Some v ≡ version_in t → (get_or rs i unused).link ≡ 0 → Entries ts rs (i + 1) (set map v.sector.number i)
    entries_last v wide e zero s h =
        ⊎_elim
        (λ k. subst (Entry ts rs (i + 1) s) (sym (ap (λ (j : ℕ). get_or (set map v.sector.number i) j 0) k ∙ get_or-set_same map v.sector.number i 0 (omega arith))) (inl (omega arith, (v, here ∙ sym e, sym k, zero))))
        (λ k. subst (Entry ts rs (i + 1) s) (sym (get_or-set_other map v.sector.number s i 0 k)) (keeps s (get_or map s 0) (λ last. let d : ◌≡◌ {A = Option Version} (Some v) (Some last.0) = e ∙ sym here ∙ last.1 in let f : v ≡ last.0 = cc in k (sym (ap (λ (x : Version). x.sector.number) f ∙ last.2))) (inv s h)))
        (cases_eq s v.sector.number)
