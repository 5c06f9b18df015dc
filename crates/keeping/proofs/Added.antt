-- One more page is programmed.
use Rattle.std.proofs.Common.{◌≡◌, ℕ, zero, suc, ◌+◌, ◌*◌, ◌<◌, ◌⊎◌, List, [], ◌∷◌, length, get_or, set, sym, refl, ap, ◌∙◌, subst, inl, inr, arith, length-set}
use Rattle.std.proofs.lemmas.List.{get_or-set_same, get_or-set_other, map-set}
use Rattle.std.proofs.lemmas.Bool.{cases_eq}
use Rattle.chip.specs.Pages.{Page, is_erased}
use Rattle.readings.specs.Sorted.{In}
use Rattle.readings.specs.Sayings.{Saying, nothing, register, bad, said, sayings}
use Rattle.readings.specs.Reading.{birth_of, latest, Told}
use Rattle.readings.specs.Mount.{is_nothing}
use Rattle.tables.specs.declared.index.Index.{Index}
use Rattle.keeping.specs.Stored.{Lone, Stored}
use Rattle.keeping.specs.Opened.{Opened}
use Rattle.keeping.specs.Added.{Added, AddedIsAccepted}
use Rattle.keeping.proofs.Accepted.{stored_is_accepted}
use Rattle.keeping.proofs.Blocks.{block_erased, erased_said}
use Rattle.keeping.proofs.Cleaned.{all_within}
use Rattle.keeping.proofs.Lists.{at_says}
use Rattle.keeping.proofs.Opened.{stored}
use Rattle.keeping.proofs.Reading.{clock_above, latest_in}
use Rattle.keeping.proofs.Registers.{in_set}

-- What is said stays said, where a page that said nothing is written.
still_in : (xs : List Saying) (k : ℕ) (x y : Saying) → get_or xs k nothing ≡ nothing → (y ≡ nothing → ⊥) → In y xs → In y (set xs k x)
still_in [] k x y e n i = i
still_in (z ∷ zs) zero x y e n (inl f) = absurd (n (f ∙ e))
still_in (z ∷ zs) zero x y e n (inr i) = inr i
still_in (z ∷ zs) (suc k) x y e n (inl f) = inl f
still_in (z ∷ zs) (suc k) x y e n (inr i) = inr (still_in zs k x y e n i)

module _ (blocks per : ℕ) (pages : List Page) (ix : Index) (place : ℕ) (page : Page) (o : Opened blocks per pages ix) (a : Added blocks per pages ix place page) where
  abbrev xs : List Saying
  xs = sayings pages

  abbrev pages' : List Page
  pages' = set pages place page

  abbrev zs : List Saying
  zs = sayings pages'

  before : Stored blocks per pages
  before = stored blocks per pages ix o

  sayings_are : zs ≡ set xs place (said page)
  sayings_are = map-set said pages place page

  else : (x : Saying) → In x zs → (x ≡ said page) ⊎ In x xs
  else x i = in_set xs place (said page) x (subst (In x) sayings_are i)

  has_latest : In (register (latest xs)) zs
  has_latest =
      subst (In (register (latest xs))) (sym sayings_are)
      (still_in xs place (said page) (register (latest xs)) (erased_said pages place a.free) (λ e. let z : ◌≡◌ {A = ℕ} 0 1 = cc in omega arith) before.told.begun)

  told : Told zs
  told =
      let b = a.born in
      record {
        dated = λ x i. elim (else x i) [ inl e ↦ let q = ap birth_of e in inr (omega arith) | inr j ↦ before.told.dated x j ];
        once = λ x y i j e. elim (else x i) [
          | inl f ↦ elim (else y j) [ inl g ↦ f ∙ sym g | inr g ↦ let p = ap birth_of f in let q = clock_above xs y g in absurd (omega arith) ]
          | inr f ↦ elim (else y j) [ inl g ↦ let p = ap birth_of g in let q = clock_above xs x f in absurd (omega arith) | inr g ↦ before.told.once x y f g e ]
        ];
        begun = latest_in zs (latest xs) has_latest;
      }

  at_place : get_or pages' place [] ≡ page
  at_place = get_or-set_same pages place page [] a.inside

  at_other : (k : ℕ) → (k ≡ place → ⊥) → get_or pages' k [] ≡ get_or pages k []
  at_other k ne = get_or-set_other pages place k page [] ne

  -- The new birth is no other page's.
  born_here : (k : ℕ) → k < length pages → (k ≡ place → ⊥) → birth_of (said (get_or pages' k [])) ≡ birth_of (said (get_or pages' place [])) → ⊥
  born_here k h ne e =
      let b = a.born in
      let p : birth_of (said (get_or pages k [])) ≡ birth_of (said page) = sym (ap (λ q. birth_of (said q)) (at_other k ne)) ∙ e ∙ ap (λ q. birth_of (said q)) at_place in
      let q = clock_above xs (said (get_or pages k [])) (at_says pages (said (get_or pages k [])) k h refl) in
      omega arith

  lone : Lone pages'
  lone j k h l m n e =
      let len = length-set pages place page in
      elim (cases_eq j place) [
        | inl f ↦ elim (cases_eq k place) [
          | inl g ↦ f ∙ sym g
          | inr ne ↦ absurd (born_here k (omega arith) ne (sym e ∙ ap (λ i. birth_of (said (get_or pages' i []))) f))
        ]
        | inr nf ↦ elim (cases_eq k place) [
          | inl g ↦ absurd (born_here j (omega arith) nf (e ∙ ap (λ i. birth_of (said (get_or pages' i []))) g))
          | inr ne ↦
              let p = at_other j nf in
              let q = at_other k ne in
              before.lone j k (omega arith) (omega arith) (ap (λ z. is_nothing (said z)) (sym p) ∙ m) (ap (λ z. is_nothing (said z)) (sym q) ∙ n)
              (ap (λ z. birth_of (said z)) (sym p) ∙ e ∙ ap (λ z. birth_of (said z)) q)
        ]
      ]

  after : Stored blocks per pages'
  after =
      record {
        told = told;
        none_bad = λ cause i. elim (else (bad cause) i) [ inl e ↦ let q = ap birth_of e in let b = a.born in omega arith | inr j ↦ before.none_bad cause j ];
        limits = all_within pages';
        lone = lone;
        two_blocks = before.two_blocks;
        small = before.small;
        has_erased_block = block_erased per blocks ix.spare.0 pages' o.tells.spare_block
            (λ k h. ap is_erased (at_other (ix.spare.0 * per + k) (λ e. elim a.outside [ inl b ↦ omega arith | inr b ↦ omega arith ])) ∙ o.tells.spare_erased k h);
        room = a.room;
      }

pub added_is_accepted : AddedIsAccepted
added_is_accepted blocks per pages ix place page o a = stored_is_accepted blocks per (set pages place page) (after blocks per pages ix place page o a)
