-- What records and map tell of the pages.
use Rattle.std.proofs.Common.{◌≡◌, ℕ, ◌<◌, ◌≤◌, Bool, true, false, List, [], ◌∷◌, length, get_or, take, Some, MatchBool, sym, refl, ap, ◌∙◌, subst, inl, inr, ⊎_elim, arith}
use mathlib.Core.Option.{Option, none, some}
use Rattle.std.specs.List.Sorted.{IsPermutation}
use Rattle.std.proofs.lemmas.List.{length-map, get_or-map}
use Rattle.std.proofs.lemmas.Bool.{lt-ltb, le-ltb, cases_eq, eq-eqb, and_from}
use Rattle.chip.specs.Pages.{Page}
use Rattle.limits.specs.declared.types.Version as limits
use Rattle.layout.specs.declared.pages.Tag.{Tag}
use Rattle.layout.specs.declared.pages.Tag.TheVariants as tag
use Rattle.readings.specs.Versions.{Version, now, choose, first, of, youngest}
use Rattle.readings.specs.Sorted.{In, sort, Apart, reading_of}
use Rattle.readings.specs.Sayings.{Saying, nothing, version, register, bad, said, sayings}
use Rattle.readings.specs.Reading.{versions, latest, held_by, reading}
use Rattle.readings.specs.Mount.{births, distinct}
use Rattle.readings.specs.Links.{Linked}
use Rattle.readings.proofs.Sorted.{sort_in}
use Rattle.readings.proofs.Meaning.{words_mean}
use Rattle.tables.specs.Records.{unused, needed_count, Agrees}
use Rattle.tables.proofs.Needs.{counted as counted_by}
use Rattle.tables.proofs.Said.{says_at, in_versions}
use Rattle.tables.specs.Tells.{HasLast, Mapped}
use Rattle.tables.specs.declared.types.Record.{Record}
use Rattle.mounting.specs.Tagged.{bare, tag_saying, tag_sayings, version_in, Tagged}
use Rattle.mounting.specs.Keys.{keys}
use Rattle.mounting.specs.Recorded.{LinkBy, Recorded, RecordedAll}
use Rattle.mounting.specs.Entries.{LastAt, Entry}
use Rattle.mounting.proofs.Bare.{agrees_bare, tag_of_version, tagged_fits}
use Rattle.mounting.proofs.Links.{linked, linked_last, linked_link, once, once_apart}

first_none : {X : Type 0} (p : X → Bool) (l : List X) (x : X) → first p l ≡ none → In x l → p x ≡ true → ⊥
unfolding first
first_none p [] x e i t = absurd i
first_none p (y ∷ ys) x e i t = go (p y) refl e i (first_none p ys x)
  where
    go : (b : Bool) → p y ≡ b → choose b y (first p ys) ≡ none → In x (y ∷ ys) → (first p ys ≡ none → In x ys → p x ≡ true → ⊥) → ⊥
    go true f e i ih = let z : ◌≡◌ {A = ℕ} 0 1 = cc in absurd (omega arith)
    go false f e (inl k) ih = let z : ◌≡◌ {A = ℕ} 0 1 = cc (ap p k) in absurd (omega arith)
    go false f e (inr k) ih = ih e k t

-- a tag of a version, and the page
version_of_tag : (t : Tag) (x : Saying) (u : limits.Version) → tag_saying t ≡ bare x → version_in t ≡ Some u → (v : Version) × (x ≡ version v) × (v.sector ≡ u.sector.number)
version_of_tag t x u e f = go x e
  where
    same : {a b : limits.Version} → ◌≡◌ (Some a) (Some b) → a.sector.number ≡ b.sector.number
    same {a} {b} g = let h : a ≡ b = cc in ap (λ (w : limits.Version). w.sector.number) h

    no_version : (t : Tag) → ((v : Version) → tag_saying t ≡ version v → ⊥) → version_in t ≡ Some u → ⊥
    no_version tag.Erased n g = let z : ◌≡◌ {A = ℕ} 0 1 = cc in absurd (omega arith)
    no_version (tag.Data v) n g = n _ refl
    no_version (tag.Deletion v) n g = n _ refl
    no_version (tag.Register b) n g = let z : ◌≡◌ {A = ℕ} 0 1 = cc in absurd (omega arith)

    go : (x : Saying) → tag_saying t ≡ bare x → (v : Version) × (x ≡ version v) × (v.sector ≡ u.sector.number)
    go nothing e = absurd (no_version t (λ v g. let z : ◌≡◌ {A = ℕ} 0 1 = cc in absurd (omega arith)) f)
    go (version v) e = let r = tag_of_version t v e in (v, refl, sym r.2 ∙ same (sym r.1 ∙ f))
    go (register r) e = absurd (no_version t (λ v g. let z : ◌≡◌ {A = ℕ} 0 1 = cc in absurd (omega arith)) f)
    go (bad c) e = absurd (no_version t (λ v g. let z : ◌≡◌ {A = ℕ} 0 1 = cc in absurd (omega arith)) f)

module _ (pages : List Page) (ts : List Tag) (tagged : Tagged (sayings pages) ts) where
  pub many : length ts ≡ length pages
  many = sym (length-map ts tag_saying) ∙ ap length tagged ∙ length-map (sayings pages) bare ∙ length-map pages said

  pub tag_says : (k : ℕ) → k < length pages → get_or (tag_sayings ts) k nothing ≡ bare (said (get_or pages k []))
  tag_says k h =
      let l = length-map pages said in
      ap (λ l. get_or l k nothing) tagged ∙ get_or-map bare (sayings pages) k nothing nothing (omega arith) ∙ ap bare (get_or-map said pages k [] nothing h)

  tag_at : (k : ℕ) → k < length pages → tag_saying (get_or ts k tag.Erased) ≡ bare (said (get_or pages k []))
  tag_at k h = let l = many in sym (get_or-map tag_saying ts k tag.Erased nothing (omega arith)) ∙ tag_says k h

module _ (pages : List Page) (ts : List Tag) (rs : List Record) (ks : List ℕ)
    (tagged : Tagged (sayings pages) ts) (recorded : RecordedAll ks (tag_sayings ts) rs) (sh : IsPermutation (keys (sayings pages)) ks) where
  recorded_at : (k : ℕ) → k < length pages → Recorded ks (bare (said (get_or pages k []))) (get_or rs k unused)
  recorded_at k h = let l = many pages ts tagged in let m = length-map ts tag_saying in subst (λ x. Recorded ks x (get_or rs k unused)) (tag_says pages ts tagged k h) (recorded k (omega arith))

  pub agree : (k : ℕ) → k < length pages → Agrees (said (get_or pages k [])) (get_or rs k unused)
  agree k h = agrees_bare _ _ (recorded_at k h).0

  fits : (v : Version) → In v (versions (sayings pages)) → v.birth < 4294967296
  fits v i = tagged_fits (sayings pages) ts tagged (version v) (in_versions (sayings pages) v i)

  pub linked_at : (held : List ℕ) (k : ℕ) (v : Version) → k < length pages → said (get_or pages k []) ≡ version v → Linked held (versions (sayings pages)) v (get_or rs k unused).link
  linked_at held k v h e =
      linked held (versions (sayings pages)) ks fits sh v (get_or rs k unused).link (subst (λ x. LinkBy ks (bare x) (get_or rs k unused).link) e (recorded_at k h).1)

  module _ (differ : distinct (births (sayings pages)) ≡ true) where
    apart : Apart (versions (sayings pages))
    apart = once_apart (versions (sayings pages)) (once (sayings pages) differ)

    -- the map
    abbrev NoVersion : ℕ → Type 0
    NoVersion s = (w : Version) → In w (versions (sayings pages)) → w.sector ≡ s → ⊥

    mapped_none : (s : ℕ) → ((k : ℕ) → k < length ts → LastAt ts rs s k → ⊥) → (w : Version) → In w (versions (sayings pages)) → w.sector ≡ s → ⊥
    mapped_none s no_last w i e = go (youngest now s (sort (versions (sayings pages)))) refl
      where
        go : (o : Option Version) → youngest now s (sort (versions (sayings pages))) ≡ o → ⊥
        go none f = first_none (of now s) (sort (versions (sayings pages))) w f (sort_in (versions (sayings pages)) w apart i) (and_from _ true (eq-eqb w.sector s e) refl)
        go (some v) f =
            let y = (words_mean.youngest_means now s (versions (sayings pages)) v apart).0 f in
            let p = says_at pages (version v) (in_versions (sayings pages) v y.stands) in
            let l = linked_at [] p.0 v p.1 p.2 in
            let g = tag_of_version (get_or ts p.0 tag.Erased) v (tag_at pages ts tagged p.0 p.1 ∙ ap bare p.2) in
            let m = many pages ts tagged in
            ⊎_elim
            (λ z. no_last p.0 (let q = p.1 in omega arith) (g.0, g.1, g.2 ∙ y.of_sector, z))
            (λ n. let link = linked_link [] _ v _ n l in let r = link.replaced in let q = y.none_younger r.0 r.1 (r.2 ∙ y.of_sector) tt in let later = link.later in let above = r.3 in absurd (omega arith))
            (cases_eq (get_or rs p.0 unused).link 0)

    pub mapped : length pages ≤ 2048 → (s m : ℕ) → Entry ts rs (length ts) s m → Mapped pages s m
    mapped few s m (inl h) =
        let l = many pages ts tagged in
        let in-range : m < length pages = let q = h.0 in omega arith in
        let v = version_of_tag (get_or ts m tag.Erased) (said (get_or pages m [])) h.1.0 (tag_at pages ts tagged m in-range) h.1.1 in
        subst (λ b. MatchBool b (HasLast pages s m) (NoVersion s)) (sym (lt-ltb m (length pages) in-range))
        (record { last = v.0; stands = v.1; of_sector = v.2 ∙ h.1.2; youngest = linked_last [] _ v.0 _ h.1.3 (linked_at [] m v.0 in-range v.1) })
    mapped few s m (inr h) =
        let past : length pages ≤ m = let q = h.0 in omega arith in
        subst (λ b. MatchBool b (HasLast pages s m) (NoVersion s)) (sym (le-ltb m (length pages) past)) (mapped_none s h.1)

    -- the count
    pub counted : (held : List ℕ) → held ≡ (latest (sayings pages)).held → length pages ≤ length rs → needed_count held (take (length pages) rs) ≡ length (reading (sayings pages)).versions
    unfolding reading reading_of
    counted held e long =
        ap (λ (l : List ℕ). needed_count l (take (length pages) rs)) e
        ∙ counted_by pages (latest (sayings pages)).held (versions (sayings pages)) rs apart (λ v i. i) agree (linked_at (held_by (sayings pages))) long
        ∙ sym (words_mean.counted_in_place (held_by (sayings pages)) (versions (sayings pages)) (once (sayings pages) differ))
