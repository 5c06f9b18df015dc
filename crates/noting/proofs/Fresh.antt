-- A chip with nothing but the first register is a store.
use Rattle.std.proofs.Common.{◌≡◌, ℕ, zero, suc, ◌+◌, ◌*◌, ◌<◌, ◌≤◌, min, true, false, ◌⊎◌, List, [], ◌∷◌, length, get_or, replicate, sym, refl, ap, ◌∙◌, inl, inr, arith}
use lib.ListN.{length-replicate}
use Rattle.std.proofs.lemmas.List.{get_or-set_same, get_or-set_other, get_or-replicate, get_or_past}
use Rattle.std.proofs.lemmas.Bool.{cases_eq, cases_lt, le-ltb, both_ways}
use Rattle.chip.specs.declared.BlockNumber.{BlockNumber}
use Rattle.chip.specs.Pages.{Page, is_erased}
use Rattle.limits.specs.declared.types.Bounded.{Bounded}
use Rattle.limits.specs.Values.{label_of}
use Rattle.readings.specs.Versions.{Version, settle, keep}
use Rattle.readings.specs.Sorted.{In, sort, reading_of}
use Rattle.readings.specs.Sayings.{Register, Saying, nothing, version, register, said, sayings}
use Rattle.readings.specs.Reading.{birth_of, versions, clock_of, latest, reading, Told}
use Rattle.readings.specs.Mount.{capacity, is_nothing, size_fits}
use Rattle.readings.specs.Changes.{fresh}
use Rattle.tables.specs.declared.index.Index.{Index}
use Rattle.tables.specs.declared.types.Record.{Record}
use Rattle.tables.specs.Records.{unused, Agrees}
use Rattle.tables.specs.Tells.{Mapped, Tells}
use Rattle.noting.specs.Consistent.{Lone, Consistent}
use Rattle.noting.specs.Noted.{register_record}
use Rattle.noting.specs.Fresh.{no_records, no_pages, IsFresh, first_register, Formatted, FreshlyRead}
use Rattle.noting.proofs.Accepted.{consistent_accepted}
use Rattle.tables.proofs.Said.{says_at, at_says, in_versions, versions_in}
use Rattle.noting.proofs.Sayings.{said_erased, same_register, register_says, not_version, version_says, clock_above, clock_below, latest_in}

-- A list in which nothing stands.
none_in : {A : Type 0} (l : List A) → ((x : A) → In x l → ⊥) → l ≡ []
none_in [] h = refl
none_in (x ∷ xs) h = absurd (h x (inl refl))

-- Tables of a chip that is not used.
no_record : (k : ℕ) → get_or no_records k unused ≡ unused
unfolding no_records
no_record k = go 2048 k
  where
    go : (n k : ℕ) → get_or (replicate n unused) k unused ≡ unused
    go zero k = refl
    go (suc n) zero = refl
    go (suc n) (suc k) = go n k

no_page : (s : ℕ) → s < 2048 → get_or no_pages s 0 ≡ 65535
unfolding no_pages
no_page s h = get_or-replicate {A = ℕ} 2048 s 65535 0 h

long_records : length no_records ≡ 2048
unfolding no_records
long_records = length-replicate {A = Record} 2048 unused

module _ (blocks per : ℕ) (pages : List Page) (k spare : ℕ) (label : List ℕ) (form : Formatted blocks per pages k spare label) where
  abbrev xs : List Saying
  xs = sayings pages

  abbrev g : Register
  g = first_register label

  says_other : (j : ℕ) → j < length pages → (j ≡ k → ⊥) → said (get_or pages j []) ≡ nothing
  says_other j h ne = said_erased (get_or pages j []) (form.erased j h ne)

  stands : In (register g) xs
  stands = at_says pages (register g) k form.inside form.first

  says : (x : Saying) → In x xs → (x ≡ nothing) ⊎ (x ≡ register g)
  says x i =
      let r = says_at pages x i in
      elim (cases_eq r.0 k) [
        | inl e ↦ inr (sym r.2 ∙ ap (λ j. said (get_or pages j [])) e ∙ form.first)
        | inr ne ↦ inl (sym r.2 ∙ says_other r.0 r.1 ne)
      ]

  pub is_latest : latest xs ≡ g
  is_latest = elim (says (register (latest xs)) (latest_in xs g stands)) [ inl e ↦ absurd (register_says (latest xs) e) | inr e ↦ same_register (latest xs) g e ]

  pub is_clock : clock_of xs ≡ 1
  is_clock =
      let a : 1 ≤ clock_of xs = clock_above xs (register g) stands in
      let b : clock_of xs ≤ 1 = clock_below xs 1 (λ x i. elim (says x i) [ inl e ↦ let q = ap birth_of e in omega arith | inr e ↦ let q = ap birth_of e in omega arith ]) in
      omega arith

  pub no_version : (v : Version) → In v (versions xs) → ⊥
  no_version v i = elim (says (version v) (in_versions xs v i)) [ inl e ↦ version_says v e | inr e ↦ not_version g v (sym e) ]

  no_versions : versions xs ≡ []
  no_versions = none_in (versions xs) no_version

  is_told : Told xs
  is_told =
      record {
        dated = λ x i. elim (says x i) [ inl e ↦ inl e | inr e ↦ let q = ap birth_of e in inr (omega arith) ];
        once = λ x y i j e. elim (says x i) [
          | inl p ↦ elim (says y j) [ inl q ↦ p ∙ sym q | inr q ↦ let a = ap birth_of p in let b = ap birth_of q in absurd (omega arith) ]
          | inr p ↦ elim (says y j) [ inl q ↦ let a = ap birth_of p in let b = ap birth_of q in absurd (omega arith) | inr q ↦ p ∙ sym q ]
        ];
        begun = latest_in xs g stands;
      }

  is_k : (j : ℕ) → j < length pages → is_nothing (said (get_or pages j [])) ≡ false → j ≡ k
  is_k j h s = elim (cases_eq j k) [ inl e ↦ e | inr ne ↦ absurd (both_ways (is_nothing (said (get_or pages j []))) s (ap is_nothing (says_other j h ne))) ]

  is_lone : Lone pages
  is_lone i j hi hj si sj e = is_k i hi si ∙ sym (is_k j hj sj)

  pub reads_fresh : reading xs ≡ fresh label
  unfolding reading reading_of settle sort keep
  reads_fresh = rw (is_latest, is_clock, no_versions) refl

  spare_says : (j : ℕ) → j < per → is_erased (get_or pages (spare * per + j) []) ≡ true
  spare_says j h =
      let ne : spare * per + j ≡ k → ⊥ = λ e. elim form.outside [ inl a ↦ omega arith | inr a ↦ omega arith ] in
      elim (cases_lt (spare * per + j) (length pages)) [
        | inl l ↦ form.erased (spare * per + j) l ne
        | inr l ↦ ap is_erased (get_or_past pages (spare * per + j) [] l)
      ]

  size_fits_lem : size_fits blocks per ≡ true
  size_fits_lem =
      let a = form.few in let b = form.whole in
      rw (le-ltb blocks 2 form.two, le-ltb 2048 (blocks * per) (omega arith)) refl

  module _ (ix : Index) (empty : BlockNumber) (text : Bounded ℕ 32) (n : ℕ) (counted : length pages ≡ n) (is-empty : empty.0 ≡ spare) (is-label : label_of text ≡ label) (is : IsFresh n k empty text ix) where
    record_at : (j : ℕ) → (j ≡ k → ⊥) → get_or ix.records j unused ≡ unused
    record_at j ne = rw is.records (get_or-set_other no_records k j (register_record 1) unused ne ∙ no_record j)

    record_k : get_or ix.records k unused ≡ register_record 1
    record_k = rw is.records (get_or-set_same no_records k (register_record 1) unused (let a = form.inside in let b = form.few in omega (arith, long_records)))

    agree : (j : ℕ) → j < length pages → Agrees (said (get_or pages j [])) (get_or ix.records j unused)
    agree j h = elim (cases_eq j k) [
      | inl e ↦ rw (e, form.first, record_k) (refl, refl)
      | inr ne ↦ rw (says_other j h ne, record_at j ne) refl
    ]

    mapped : (s : ℕ) → s < 2048 → Mapped pages s (get_or ix.map s 0)
    mapped s h =
        let m : get_or ix.map s 0 ≡ 65535 = ap (λ ms. get_or ms s 0) is.map ∙ no_page s h in
        let few = form.few in
        rw (m, le-ltb 65535 (length pages) (omega arith)) (λ w i e. no_version w i)

    fresh_tells : Tells blocks per pages ix
    fresh_tells =
        let few = form.few in
        let spare_is : ix.spare.0 ≡ spare = ap (λ (b : BlockNumber). b.0) is.spare ∙ is-empty in
        record {
          counted = is.pages ∙ (let z : min n 2048 ≡ length pages = omega arith in z);
          agree = agree;
          linked = λ j v h e. absurd (no_version v (versions_in xs v (at_says pages (version v) j h e)));
          mapped = mapped;
          clock = is.clock ∙ sym is_clock;
          newest = is.newest ∙ sym (ap (λ (r : Register). r.birth) is_latest);
          held = is.held ∙ sym (ap (λ (r : Register). r.held) is_latest);
          label = ap label_of is.label ∙ is-label ∙ sym (ap (λ (r : Register). r.label) is_latest);
          spare_block = rw spare_is form.spare_block;
          spare_erased = rw spare_is spare_says;
        }

    pub freshly_read : FreshlyRead blocks per pages label ix
    freshly_read =
        let con : Consistent blocks per pages ix = record { tells = fresh_tells; told = is_told; lone = is_lone } in
        let none : length (reading xs).versions ≤ capacity blocks per = rw reads_fresh (omega arith) in
        record { consistent = con; reads = reads_fresh; accepted = consistent_accepted blocks per pages ix con size_fits_lem none }
