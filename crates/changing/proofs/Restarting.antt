-- The register after a cut, and the links that it leaves.
use Rattle.std.proofs.Common.{◌≡◌, ℕ, ◌+◌, ◌*◌, ◌<◌, ◌≤◌, true, ◌⊎◌, List, [], length, get_or, set, sym, refl, ap, ◌∙◌, subst, inl, inr, arith, length-set}
use Rattle.std.proofs.lemmas.List.{get_or-set_same, get_or-set_other}
use Rattle.std.proofs.lemmas.Bool.{cases_eq}
use Rattle.chip.specs.declared.BlockNumber.{BlockNumber}
use Rattle.chip.specs.Pages.{Page, is_erased}
use Rattle.readings.specs.Versions.{Version}
use Rattle.readings.specs.Sayings.{Register, Saying, nothing, version, register, bad, said}
use Rattle.readings.specs.Reading.{birth_of}
use Rattle.readings.specs.Mount.{is_nothing}
use Rattle.tables.specs.declared.index.Index.{Index}
use Rattle.tables.specs.declared.types.Record.{Record}
use Rattle.tables.specs.Records.{unused, Agrees}
use Rattle.moving.specs.Sound.{Shows, Sound}
use Rattle.keeping.specs.Stored.{Lone}
use Rattle.keeping.specs.Reopened.{cut_link}
use Rattle.noting.specs.Noted.{register_record}
use Rattle.noting.proofs.Added.{spare_stays}
use Rattle.noting.proofs.Sayings.{said_erased, version_says, not_version}
use Rattle.changing.specs.Back.{unlinked}

agrees_unlinked : (n : ℕ) (y : Saying) (r : Record) → Agrees y r → Agrees y (unlinked n r)
agrees_unlinked n nothing r a = a
agrees_unlinked n (version v) r a = a
agrees_unlinked n (register g) r a = a
agrees_unlinked n (bad c) r a = a

module _ (blocks per : ℕ) (pages : List Page) (ix : Index) (link last_birth : ℕ → ℕ) (sound : Sound blocks per pages ix link last_birth) (k : ℕ) (inside : k < length pages)
    (outside : (k < ix.spare.0 * per) ⊎ (ix.spare.0 * per + per ≤ k)) (free : is_erased (get_or pages k []) ≡ true) (x : Page) (g : Register) (says : said x ≡ register g)
    (younger : (j : ℕ) → j < length pages → birth_of (said (get_or pages j [])) < g.birth) (n : ℕ) (ix' : Index)
    (records : (j : ℕ) → j < 2048 → get_or ix'.records j unused ≡ unlinked n (get_or (set ix.records k (register_record g.birth)) j unused))
    (counted : ix'.pages ≡ ix.pages) (map : ix'.map ≡ ix.map) (spare : ix'.spare ≡ ix.spare) where
  abbrev pages' : List Page
  pages' = set pages k x

  abbrev rec : ℕ → Record
  rec j = get_or ix'.records j unused

  long : length pages' ≡ length pages
  long = length-set pages k x

  says_new : said (get_or pages' k []) ≡ register g
  says_new = ap said (get_or-set_same pages k x [] inside) ∙ says

  says_old : (j : ℕ) → (j ≡ k → ⊥) → said (get_or pages' j []) ≡ said (get_or pages j [])
  says_old j ne = ap said (get_or-set_other pages k j x [] ne)

  record_new : rec k ≡ unlinked n (register_record g.birth)
  record_new = records k (omega (arith, sound.fits)) ∙ ap (unlinked n) (get_or-set_same ix.records k (register_record g.birth) unused (omega (arith, sound.fits, ix.long)))

  record_old : (j : ℕ) → j < length pages → (j ≡ k → ⊥) → rec j ≡ unlinked n (get_or ix.records j unused)
  record_old j h ne = records j (omega (arith, sound.fits)) ∙ ap (unlinked n) (get_or-set_other ix.records k j (register_record g.birth) unused ne)

  agree : (j : ℕ) → j < length pages → Agrees (said (get_or pages' j [])) (rec j)
  agree j h = elim (cases_eq j k) [
    | inl e ↦ subst (λ i. Agrees (said (get_or pages' i [])) (rec i)) (sym e) (subst (λ y. Agrees y (rec k)) (sym says_new) (subst (λ r. Agrees (register g) r) (sym record_new) (refl, refl)))
    | inr ne ↦
        subst (λ y. Agrees y (rec j)) (sym (says_old j ne))
        (subst (λ r. Agrees (said (get_or pages j [])) r) (sym (record_old j h ne)) (agrees_unlinked n (said (get_or pages j [])) (get_or ix.records j unused) (sound.agree j h)))
  ]

  links : (j : ℕ) (v : Version) → j < length pages → said (get_or pages' j []) ≡ version v → (rec j).link ≡ cut_link n (link v.birth)
  links j v h e = elim (cases_eq j k) [
    | inl p ↦ absurd (not_version g v (sym says_new ∙ ap (λ i. said (get_or pages' i [])) (sym p) ∙ e))
    | inr ne ↦ ap (λ (r : Record). r.link) (record_old j h ne) ∙ ap (cut_link n) (sound.links j v h (sym (says_old j ne) ∙ e))
  ]

  birth_new : (j : ℕ) → j ≡ k → birth_of (said (get_or pages' j [])) ≡ g.birth
  birth_new j e = ap (λ i. birth_of (said (get_or pages' i []))) e ∙ ap birth_of says_new

  birth_old : (j : ℕ) → j < length pages → (j ≡ k → ⊥) → birth_of (said (get_or pages' j [])) < g.birth
  birth_old j h ne = let e = ap birth_of (says_old j ne) in let q = younger j h in omega arith

  lone : Lone pages'
  lone i j hi hj si sj e =
      let hi' : i < length pages = omega (arith, long) in
      let hj' : j < length pages = omega (arith, long) in
      elim (cases_eq i k) [
        | inl p ↦ elim (cases_eq j k) [
          | inl r ↦ p ∙ sym r
          | inr r ↦ let a = birth_new i p in let b = birth_old j hj' r in absurd (omega arith)
        ]
        | inr p ↦ elim (cases_eq j k) [
          | inl r ↦ let a = birth_new j r in let b = birth_old i hi' p in absurd (omega arith)
          | inr r ↦
              sound.lone i j hi' hj' (sym (ap is_nothing (says_old i p)) ∙ si) (sym (ap is_nothing (says_old j r)) ∙ sj) (sym (ap birth_of (says_old i p)) ∙ e ∙ ap birth_of (says_old j r))
        ]
      ]

  mapped : (s : ℕ) → s < 2048 → 0 < last_birth s → Shows pages' s (last_birth s) (get_or ix'.map s 0)
  mapped s h p =
      let w = sound.mapped s h p in
      let m = get_or ix.map s 0 in
      let ne : m ≡ k → ⊥ = λ e. version_says w.shown (sym w.says ∙ ap (λ i. said (get_or pages i [])) e ∙ said_erased (get_or pages k []) free) in
      subst (λ t. Shows pages' s (last_birth s) (get_or t s 0)) (sym map)
      (record { inside = let q = w.inside in omega (arith, long); shown = w.shown; says = says_old m ne ∙ w.says; of_sector = w.of_sector; born = w.born })

  pub sound_after : Sound blocks per pages' ix' (λ b. cut_link n (link b)) last_birth
  sound_after = record {
    counted = counted ∙ sound.counted ∙ sym long;
    fits = omega (arith, long, sound.fits);
    whole = long ∙ sound.whole;
    agree = λ j h. agree j (omega (arith, long));
    links = λ j v h e. links j v (omega (arith, long)) e;
    lone = lone;
    unmapped = λ s h e. let u = sound.unmapped s h e in let q = ap (λ t. get_or t s 0) map in omega (arith, long);
    mapped = mapped;
    spare_block = subst (λ (b : BlockNumber). b.0 < blocks) (sym spare) sound.spare_block;
    spare_erased = subst (λ (b : BlockNumber). (j : ℕ) → j < per → is_erased (get_or pages' (b.0 * per + j) []) ≡ true) (sym spare) (spare_stays per ix.spare.0 pages k x outside sound.spare_erased);
  }
