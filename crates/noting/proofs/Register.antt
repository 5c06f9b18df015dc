-- What memory tells, once a register was noted.
use Rattle.std.proofs.Common.{◌≡◌, ℕ, suc, ◌<◌, ◌≤◌, true, false, not, eqb, ltb, ◌⊎◌, List, [], ◌∷◌, ◌++◌, length, get_or, set, sym, refl, ap, ◌∙◌, subst, inl, inr, arith, length-set}
use Rattle.std.proofs.lemmas.List.{get_or-set_same, get_or-set_other}
use Rattle.std.proofs.lemmas.Bool.{cases_eq, cases_Bool, lt-ltb, or_cases, and_parts, eqb-true}
use Rattle.std.proofs.lemmas.Bool.Decides.{when_true, when_false}
use Rattle.chip.specs.Pages.{Page}
use Rattle.limits.specs.declared.types.Bounded.{Bounded}
use Rattle.limits.specs.Values.{held_of, label_of}
use Rattle.readings.specs.Versions.{Version, has}
use Rattle.readings.specs.Sorted.{In}
use Rattle.readings.specs.Sayings.{Register, Saying, nothing, version, register, said, sayings}
use Rattle.readings.specs.Reading.{versions, clock_of, latest, held_by}
use Rattle.readings.specs.Links.{Linked}
use Rattle.readings.proofs.Lists.{has_keep}
use Rattle.tables.specs.declared.index.Index.{Index}
use Rattle.tables.specs.declared.types.Record.{Record}
use Rattle.tables.specs.Records.{unused, Agrees, Rest, rest_of}
use Rattle.tables.specs.Tells.{HasLast, Mapped, Tells}
use Rattle.tables.proofs.Needs.{any_reverse}
use Rattle.noting.specs.Consistent.{Consistent, Free}
use Rattle.noting.specs.Holding.{without}
use Rattle.noting.specs.Noted.{Memory, memory_of, ticked, register_record, register_rest, register_noted, next_register, Holdable, RegisterAdded}
use Rattle.noting.proofs.Sayings.{said_erased, not_version, version_says}
use Rattle.noting.proofs.Added.{spare_stays, born, says_new, says_old, other_page, next_clock, lone_next, register_told, register_latest, register_in, in_register, register_reads, frozen_reads, released_reads, any_append}
use Rattle.noting.proofs.Linked.{last_like, linked_like, linked_held}
use Rattle.noting.proofs.Version.{ticks}

-- The held numbers of a freeze and of a release.
pub holdable_frozen : (pages : List Page) (held : List ℕ) → held ≡ (latest (sayings pages)).held ++ (suc (clock_of (sayings pages)) ∷ []) → Holdable pages held
holdable_frozen pages held e h t =
    let now = suc (clock_of (sayings pages)) in
    let old = (latest (sayings pages)).held in
    elim (or_cases (has h old) (has h (now ∷ [])) (sym (any_append (eqb h) old (now ∷ [])) ∙ ap (has h) (sym e) ∙ t)) [
      | inl p ↦ inl p
      | inr p ↦ elim (or_cases (eqb h now) false p) [ inl q ↦ inr (eqb-true h now q) | inr q ↦ let z : ◌≡◌ {A = ℕ} 0 1 = cc in absurd (omega arith) ]
    ]

pub holdable_released : (pages : List Page) (n : ℕ) (held : List ℕ) → held ≡ without n (latest (sayings pages)).held → Holdable pages held
holdable_released pages n held e h t =
    let old = (latest (sayings pages)).held in
    inl (and_parts (has h old) (not (eqb h n)) (sym (has_keep (λ m. not (eqb m n)) old h) ∙ ap (has h) (sym e) ∙ t)).0

module _ (blocks per : ℕ) (pages : List Page) (ix ix' : Index) (k : ℕ) (x : Page) (held : Bounded ℕ 8)
    (con : Consistent blocks per pages ix) (free : Free per pages ix k)
    (is : said x ≡ register (next_register pages (held_of held))) (holdable : Holdable pages (held_of held))
    (noted : memory_of ix' ≡ register_noted ix k held) where
  abbrev g : Register
  g = next_register pages (held_of held)

  abbrev xs : List Saying
  xs = sayings pages

  abbrev pages' : List Page
  pages' = set pages k x

  abbrev ys : List Saying
  ys = sayings pages'

  tells : Tells blocks per pages ix
  tells = con.tells

  empty : said (get_or pages k []) ≡ nothing
  empty = said_erased (get_or pages k []) free.erased

  tick : ticked ix.clock ≡ g.birth
  tick = ticks ix.clock (clock_of xs) tells.clock free.in_time

  memory : memory_of ix' ≡ record { records = set ix.records k (register_record (ticked ix.clock)); rest = register_rest ix k held }
  memory = let a = free.inside in let b = tells.counted in noted ∙ rw (lt-ltb k ix.pages (omega arith)) refl

  records_are : ix'.records ≡ set ix.records k (register_record g.birth)
  records_are = ap (λ (z : Memory). z.records) memory ∙ rw tick refl

  rest_is : rest_of ix' ≡ register_rest ix k held
  rest_is = ap (λ (z : Memory). z.rest) memory

  record_new : get_or ix'.records k unused ≡ register_record g.birth
  record_new =
      let a = free.inside in let b = tells.counted in let d = ix.few in let e = ix.long in
      rw records_are (get_or-set_same ix.records k (register_record g.birth) unused (omega arith))

  record_other : (j : ℕ) → (j ≡ k → ⊥) → get_or ix'.records j unused ≡ get_or ix.records j unused
  record_other j ne = rw records_are (get_or-set_other ix.records k j (register_record g.birth) unused ne)

  next_old : (j : ℕ) → (j ≡ k → ⊥) → said (get_or pages' j []) ≡ said (get_or pages j [])
  next_old = says_old pages k x (register g) con.told free.inside empty is refl

  next_new : said (get_or pages' k []) ≡ register g
  next_new = says_new pages k x (register g) con.told free.inside empty is refl

  same_latest : latest ys ≡ g
  same_latest = register_latest pages k x g con.told free.inside empty is refl

  there : (w : Version) → In w (versions xs) → In w (versions ys)
  there = register_in pages k x g con.told free.inside empty is refl

  back : (w : Version) → In w (versions ys) → In w (versions xs)
  back = in_register pages k x g con.told free.inside empty is refl

  agree : (j : ℕ) → j < length pages → Agrees (said (get_or pages' j [])) (get_or ix'.records j unused)
  agree j h = elim (cases_eq j k) [
    | inl e ↦ rw (e, next_new, record_new) (refl, refl)
    | inr ne ↦ rw (next_old j ne, record_other j ne) (tells.agree j h)
  ]

  known : (h : ℕ) → has h (held_by ys) ≡ true → (has h (held_by xs) ≡ true) ⊎ ((w : Version) → In w (versions xs) → w.birth ≤ h)
  known h t = elim (holdable h (ap (λ (r : Register). has h r.held) (sym same_latest) ∙ sym (any_reverse (eqb h) (latest ys).held) ∙ t)) [
    | inl p ↦ inl (any_reverse (eqb h) (latest xs).held ∙ p)
    | inr e ↦ inr (λ w i. let q = born xs w i in omega arith)
  ]

  linked : (j : ℕ) (w : Version) → j < length pages → said (get_or pages' j []) ≡ version w → Linked (held_by ys) (versions ys) w (get_or ix'.records j unused).link
  linked j w h sj = elim (cases_eq j k) [
    | inl e ↦ absurd (not_version g w (sym next_new ∙ ap (λ i. said (get_or pages' i [])) (sym e) ∙ sj))
    | inr ne ↦
        let t : (get_or ix'.records j unused).link ≡ (get_or ix.records j unused).link = ap (λ (r : Record). r.link) (record_other j ne) in
        rw t (linked_like (held_by ys) (versions xs) (versions ys) there back w (get_or ix.records j unused).link
        (linked_held (held_by xs) (held_by ys) (versions xs) known w (get_or ix.records j unused).link (tells.linked j w h (sym (next_old j ne) ∙ sj))))
  ]

  old_mapped : (u n : ℕ) → Mapped pages u n → Mapped pages' u n
  old_mapped u n mapped = elim (cases_Bool (ltb n (length pages))) [
    | inl b ↦
        let f : HasLast pages u n = when_true (HasLast pages u n) _ b mapped in
        let other = other_page pages k x (register g) con.told free.inside empty is refl n (λ e. version_says f.last (sym f.stands ∙ e)) in
        rw (length-set pages k x, b) (record {
          last = f.last;
          stands = next_old n other ∙ f.stands;
          of_sector = f.of_sector;
          youngest = last_like (held_by xs) (versions xs) (versions ys) there back f.last f.youngest;
        })
    | inr b ↦
        let f : (w : Version) → In w (versions xs) → w.sector ≡ u → ⊥ = when_false (HasLast pages u n) _ b mapped in
        rw (length-set pages k x, b) (λ w i e. f w (back w i) e)
  ]

  tells_next : Tells blocks per pages' ix'
  tells_next =
      let len = length-set pages k x in
      let spare_is = ap (λ (r : Rest). r.spare) rest_is in
      record {
        counted = ap (λ (r : Rest). r.pages) rest_is ∙ tells.counted ∙ sym len;
        agree = λ j h. agree j (rw len at h);
        linked = λ j w h. linked j w (rw len at h);
        mapped = λ u h. subst (λ ms. Mapped pages' u (get_or ms u 0)) (sym (ap (λ (r : Rest). r.map) rest_is)) (old_mapped u (get_or ix.map u 0) (tells.mapped u h));
        clock = ap (λ (r : Rest). r.clock) rest_is ∙ tick ∙ sym (next_clock pages k x (register g) con.told free.inside empty is refl);
        newest = ap (λ (r : Rest). r.newest) rest_is ∙ tick ∙ sym (ap (λ (r : Register). r.birth) same_latest);
        held = ap (λ (r : Rest). held_of r.held) rest_is ∙ sym (ap (λ (r : Register). r.held) same_latest);
        label = ap (λ (r : Rest). label_of r.label) rest_is ∙ tells.label ∙ sym (ap (λ (r : Register). r.label) same_latest);
        spare_block = rw spare_is tells.spare_block;
        spare_erased = rw spare_is (spare_stays per ix.spare.0 pages k x free.outside tells.spare_erased);
      }

  pub register_added : RegisterAdded blocks per pages k x (held_of held) ix'
  register_added =
      let reads = register_reads pages k x g con.told free.inside empty is refl in
      record {
        consistent = record {
          tells = tells_next;
          told = register_told pages k x g con.told free.inside empty is refl;
          lone = lone_next pages k x (register g) con.told free.inside empty is refl con.lone;
        };
        reads = reads;
        freezes = λ e. reads ∙ frozen_reads xs (held_of held) e;
        releases = λ n e. reads ∙ released_reads xs n (held_of held) e;
      }
