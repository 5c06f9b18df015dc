-- The records of pages.
use Rattle.std.proofs.Common.{◌≡◌, ℕ, ◌+◌, ◌<◌, List, length, get_or, set, Option, sym, ap, ◌∙◌, subst, ⊎_elim, arith}
use Rattle.std.proofs.lemmas.List.{get_or-set_same, get_or-set_other, get_or-map}
use Rattle.std.proofs.lemmas.Bool.{cases_eq}
use Rattle.limits.specs.declared.types.Version as limits
use Rattle.layout.specs.declared.pages.Tag.{Tag}
use Rattle.readings.specs.Versions.{Content}
use Rattle.readings.specs.Sayings.{nothing, version}
use Rattle.tables.specs.Records.{unused, kind_of}
use Rattle.tables.specs.declared.types.Record.{Record}
use Rattle.mounting.specs.Tagged.{plain_version, tag_saying, tag_sayings}
use Rattle.mounting.specs.Keys.{NextBirth}
use Rattle.mounting.specs.Recorded.{version_record, Recorded}

pub recorded_version : (ks : List ℕ) (content : Content) (v : limits.Version) (o : Option ℕ) (r : Record) →
    r ≡ version_record (kind_of content) v o → NextBirth ks v.sector.number v.birth.number o →
    Recorded ks (version (plain_version v.sector.number v.birth.number content)) r
recorded_version ks content v o r e next =
    ((ap (λ (x : Record). x.kind) e, ap (λ (x : Record). x.sector) e, ap (λ (x : Record). x.birth) e), (o, ap (λ (x : Record). x.link) e, next))

module _ (ks : List ℕ) (ts : List Tag) (rs : List Record) (i : ℕ) (r : Record) (lt : i < length ts) (room : i < length rs) where
  abbrev At : List Record → ℕ → Type 0
  At to k = Recorded ks (get_or (tag_sayings ts) k nothing) (get_or to k unused)

  before : (k : ℕ) → k < i + 1 → (k ≡ i → ⊥) → k < i
  before k h n = omega arith

  pub recorded_more : (t : Tag) → t ≡ get_or ts i t → ((k : ℕ) → k < i → At rs k) → Recorded ks (tag_saying t) r → (k : ℕ) → k < i + 1 → At (set rs i r) k
  recorded_more t at inv here k l =
      let says : tag_saying t ≡ get_or (tag_sayings ts) i nothing = ap tag_saying at ∙ sym (get_or-map tag_saying ts i t nothing lt) in
      let new : At (set rs i r) i = subst (Recorded ks (get_or (tag_sayings ts) i nothing)) (sym (get_or-set_same rs i r unused room)) (subst (λ x. Recorded ks x r) says here) in
      ⊎_elim
      (λ e. subst (At (set rs i r)) (sym e) new)
      (λ n. subst (Recorded ks (get_or (tag_sayings ts) k nothing)) (sym (get_or-set_other rs i k r unused n)) (inv k (before k l n)))
      (cases_eq k i)
