-- What memory tells, once a version was noted.
use Rattle.std.proofs.Common.{◌≡◌, ℕ, suc, ◌<◌, ◌≤◌, ltb, List, [], ◌∷◌, length, get_or, set, sym, refl, ap, ◌∙◌, inl, inr, arith, length-set}
use Rattle.std.proofs.lemmas.List.{get_or-set_same, get_or-set_other}
use Rattle.std.proofs.lemmas.Bool.{cases_eq, cases_Bool, lt-ltb, ltb-true}
use Rattle.std.proofs.lemmas.Bool.Decides.{when_true, when_false}
use Rattle.chip.specs.Pages.{Page}
use Rattle.limits.specs.Values.{held_of, label_of}
use Rattle.readings.specs.Versions.{Content, Version}
use Rattle.readings.specs.Sorted.{In}
use Rattle.readings.specs.Sayings.{Register, Saying, nothing, version, register, bad, said, sayings}
use Rattle.readings.specs.Reading.{birth_of, versions, clock_of, latest, held_by}
use Rattle.readings.specs.Links.{IsLast, IsLink, Linked}
use Rattle.readings.specs.Mount.{is_nothing}
use Rattle.readings.specs.Changes.{last_clock}
use Rattle.tables.specs.declared.index.Index.{Index}
use Rattle.tables.specs.declared.types.Record.{Record}
use Rattle.tables.specs.declared.types.VersionKind.{VersionKind}
use Rattle.tables.specs.Records.{unused, kind_of, version_kind, Agrees, Rest, rest_of}
use Rattle.tables.specs.Tells.{HasLast, Mapped, Tells}
use Rattle.noting.specs.Consistent.{Lone, Consistent, Free}
use Rattle.noting.specs.Noted.{Memory, memory_of, ticked, relinked, version_record, version_records, version_rest, version_noted, next_version, VersionAdded}
use Rattle.tables.proofs.Said.{at_says, versions_in}
use Rattle.noting.proofs.Sayings.{said_erased, same_version, version_says}
use Rattle.noting.proofs.Added.{spare_stays, born, says_new, says_old, other_page, next_clock, lone_next, version_told, version_latest, version_in_lem, in_version, version_reads, add_reads}
use Rattle.noting.proofs.Linked.{cases_link, last_linked, link_linked, new_last, last_stays, last_replaced, link_stays, last_like, linked_like}

pub ticks : (n m : ℕ) → n ≡ m → m < last_clock → ticked n ≡ suc m
ticks n m e h = ap ticked e ∙ (rw (lt-ltb m last_clock h) (omega arith))

-- A record with another link agrees with what the record agreed with.
pub relinked_agrees : (y : Saying) (r : Record) (t : ℕ) → Agrees y r → Agrees y (relinked r t)
relinked_agrees nothing r t a = a
relinked_agrees (version v) r t a = a
relinked_agrees (register g) r t a = a
relinked_agrees (bad c) r t a = a

-- Of two pages that say a version, each says it alone.
pub lone_version : (pages : List Page) → Lone pages → (i j : ℕ) (v w : Version) → i < length pages → j < length pages →
    said (get_or pages i []) ≡ version v → said (get_or pages j []) ≡ version w → v.birth ≡ w.birth → i ≡ j
lone_version pages lone i j v w hi hj si sj e =
    lone i j hi hj (ap is_nothing si) (ap is_nothing sj) (ap birth_of si ∙ e ∙ sym (ap birth_of sj))

module _ (blocks per : ℕ) (pages : List Page) (ix : Index) (con : Consistent blocks per pages ix) (s : ℕ) (h : s < 2048) where
  abbrev former : ℕ
  former = get_or ix.map s 0

  -- A version that is the youngest of its sector stands on the page that the map has.
  pub mapped_last : (j : ℕ) (w : Version) → j < length pages → said (get_or pages j []) ≡ version w → w.sector ≡ s → IsLast (versions (sayings pages)) w → j ≡ former
  mapped_last j w hj sj ws l =
      let xs = sayings pages in
      let i : In w (versions xs) = versions_in xs w (at_says pages (version w) j hj sj) in
      elim (cases_Bool (ltb former (length pages))) [
        | inl b ↦
            let m : HasLast pages s former = when_true (HasLast pages s former) _ b (con.tells.mapped s h) in
            let inside = ltb-true former (length pages) b in
            let p = l m.last (versions_in xs m.last (at_says pages (version m.last) former inside m.stands)) (m.of_sector ∙ sym ws) in
            let q = m.youngest w i (ws ∙ sym m.of_sector) in
            lone_version pages con.lone j former w m.last hj inside sj m.stands (omega arith)
        | inr b ↦ absurd (when_false (HasLast pages s former) ((u : Version) → In u (versions xs) → u.sector ≡ s → ⊥) b (con.tells.mapped s h) w i ws)
      ]

  pub former_last : former < length pages → HasLast pages s former
  former_last inside = when_true (HasLast pages s former) _ (lt-ltb former (length pages) inside) (con.tells.mapped s h)

  -- The youngest version of the sector, once v replaced it.
  module _ (v : Version) (of_sector : v.sector ≡ s) (next : v.birth ≡ suc (clock_of (sayings pages))) where
    abbrev vs : List Version
    vs = versions (sayings pages)

    abbrev held : List ℕ
    held = held_by (sayings pages)

    abbrev link : ℕ → ℕ
    link j = (get_or ix.records j unused).link

    pub old_births : (w : Version) → In w vs → w.birth < v.birth
    old_births w i = let q = born (sayings pages) w i in omega arith

    -- The page in the map has the sector's youngest version, which nothing replaced before.
    former_sector : (w : Version) → former < length pages → said (get_or pages former []) ≡ version w → w.sector ≡ s
    former_sector w h e = let f = former_last h in ap (λ (u : Version). u.sector) (same_version w f.last (sym e ∙ f.stands)) ∙ f.of_sector

    former_unlinked : (w : Version) (t : ℕ) → former < length pages → said (get_or pages former []) ≡ version w → IsLink held vs w t → ⊥
    former_unlinked w t h e l =
        let f = former_last h in
        let same = same_version w f.last (sym e ∙ f.stands) in
        let b : w.birth ≡ f.last.birth = ap (λ (u : Version). u.birth) same in
        let r = l.replaced in
        let q = f.youngest r.0 r.1 (r.2 ∙ ap (λ (u : Version). u.sector) same) in
        let p : t ≤ r.0.birth = r.3 in
        let late = l.later in
        omega arith

    pub former_link : (w : Version) → former < length pages → said (get_or pages former []) ≡ version w → link former ≡ 0
    former_link w h e = elim (cases_link held vs w (link former) (con.tells.linked former w h e)) [ inl l ↦ l.0 | inr l ↦ absurd (former_unlinked w (link former) h e l) ]

    pub link_replaced : (w : Version) → former < length pages → said (get_or pages former []) ≡ version w → Linked held (v ∷ vs) w v.birth
    link_replaced w h e = elim (cases_link held vs w (link former) (con.tells.linked former w h e)) [
      | inl l ↦ link_linked held (v ∷ vs) w v.birth
          (last_replaced held vs v old_births w (versions_in (sayings pages) w (at_says pages (version w) former h e)) (of_sector ∙ sym (former_sector w h e)) l.1)
      | inr l ↦ absurd (former_unlinked w (link former) h e l)
    ]

    pub link_kept : (j : ℕ) (w : Version) → j < length pages → (j ≡ former → ⊥) → said (get_or pages j []) ≡ version w → Linked held (v ∷ vs) w (link j)
    link_kept j w h ne e = elim (cases_link held vs w (link j) (con.tells.linked j w h e)) [
      | inl l ↦ rw l.0 (last_linked held (v ∷ vs) w (last_stays held vs v old_births w (λ q. ne (mapped_last j w h e (sym q ∙ of_sector) l.1)) l.1))
      | inr l ↦ link_linked held (v ∷ vs) w (link j) (link_stays held vs v old_births w (link j) l)
    ]

module _ (blocks per : ℕ) (pages : List Page) (ix ix' : Index) (k : ℕ) (x : Page) (s : ℕ) (c : Content) (of : VersionKind)
    (con : Consistent blocks per pages ix) (free : Free per pages ix k) (small : s < 2048)
    (is : said x ≡ version (next_version pages s c)) (kind : kind_of c ≡ version_kind of)
    (noted : memory_of ix' ≡ version_noted ix k s of) where
  abbrev v : Version
  v = next_version pages s c

  abbrev xs : List Saying
  xs = sayings pages

  abbrev pages' : List Page
  pages' = set pages k x

  abbrev ys : List Saying
  ys = sayings pages'

  abbrev m : ℕ
  m = get_or ix.map s 0

  tells : Tells blocks per pages ix
  tells = con.tells

  empty : said (get_or pages k []) ≡ nothing
  empty = said_erased (get_or pages k []) free.erased

  tick : ticked ix.clock ≡ v.birth
  tick = ticks ix.clock (clock_of xs) tells.clock free.in_time

  memory : memory_of ix' ≡ record { records = version_records ix k s of; rest = version_rest ix k s of }
  memory = let a = free.inside in let b = tells.counted in noted ∙ rw (lt-ltb k ix.pages (omega arith)) refl

  records_are : ix'.records ≡ set (set ix.records m (relinked (get_or ix.records m unused) v.birth)) k (version_record v.birth s of)
  records_are = ap (λ (z : Memory). z.records) memory ∙ rw tick refl

  rest_is : rest_of ix' ≡ version_rest ix k s of
  rest_is = ap (λ (z : Memory). z.rest) memory

  long : k < length ix.records
  long = let a = free.inside in let b = tells.counted in let d = ix.few in let e = ix.long in omega arith

  record_new : get_or ix'.records k unused ≡ version_record v.birth s of
  record_new = rw records_are (get_or-set_same (set ix.records m (relinked (get_or ix.records m unused) v.birth)) k (version_record v.birth s of) unused (rw length-set long))

  record_former : m < length pages → (m ≡ k → ⊥) → get_or ix'.records m unused ≡ relinked (get_or ix.records m unused) v.birth
  record_former inside ne =
      let b = tells.counted in let d = ix.few in let e = ix.long in
      rw records_are (get_or-set_other (set ix.records m (relinked (get_or ix.records m unused) v.birth)) k m (version_record v.birth s of) unused ne
      ∙ get_or-set_same ix.records m (relinked (get_or ix.records m unused) v.birth) unused (omega arith))

  record_other : (j : ℕ) → (j ≡ k → ⊥) → (j ≡ m → ⊥) → get_or ix'.records j unused ≡ get_or ix.records j unused
  record_other j ne nm =
      rw records_are (get_or-set_other (set ix.records m (relinked (get_or ix.records m unused) v.birth)) k j (version_record v.birth s of) unused ne
      ∙ get_or-set_other ix.records m j (relinked (get_or ix.records m unused) v.birth) unused nm)

  next_old : (j : ℕ) → (j ≡ k → ⊥) → said (get_or pages' j []) ≡ said (get_or pages j [])
  next_old = says_old pages k x (version v) con.told free.inside empty is refl

  next_new : said (get_or pages' k []) ≡ version v
  next_new = says_new pages k x (version v) con.told free.inside empty is refl

  agree : (j : ℕ) → j < length pages → Agrees (said (get_or pages' j [])) (get_or ix'.records j unused)
  agree j h = elim (cases_eq j k) [
    | inl e ↦ rw (e, next_new, record_new) (sym kind, refl, refl)
    | inr ne ↦ elim (cases_eq j m) [
      | inl e ↦
          let ne' : m ≡ k → ⊥ = λ z. ne (e ∙ z) in
          let h' : m < length pages = rw e at h in
          rw (e, next_old m ne', record_former h' ne') (relinked_agrees (said (get_or pages m [])) (get_or ix.records m unused) v.birth (tells.agree m h'))
      | inr nm ↦ rw (next_old j ne, record_other j ne nm) (tells.agree j h)
    ]
  ]

  there : (w : Version) → In w (v ∷ versions xs) → In w (versions ys)
  there = version_in_lem pages k x v con.told free.inside empty is refl

  back : (w : Version) → In w (versions ys) → In w (v ∷ versions xs)
  back = in_version pages k x v con.told free.inside empty is refl

  younger : (w : Version) → In w (versions xs) → w.birth < v.birth
  younger = old_births blocks per pages ix con s small v refl refl

  same_latest : latest ys ≡ latest xs
  same_latest = version_latest pages k x v con.told free.inside empty is refl

  -- The link of page j, which said a version before.
  old_linked : (j : ℕ) (w : Version) → j < length pages → (j ≡ k → ⊥) → said (get_or pages j []) ≡ version w → Linked (held_by xs) (v ∷ versions xs) w (get_or ix'.records j unused).link
  old_linked j w h ne sj = elim (cases_eq j m) [
    | inl e ↦
        let h' : m < length pages = rw e at h in
        let t : (get_or ix'.records j unused).link ≡ v.birth = ap (λ i. (get_or ix'.records i unused).link) e ∙ ap (λ (r : Record). r.link) (record_former h' (λ z. ne (e ∙ z))) in
        rw t (link_replaced blocks per pages ix con s small v refl refl w h' (ap (λ i. said (get_or pages i [])) (sym e) ∙ sj))
    | inr nm ↦
        let t : (get_or ix'.records j unused).link ≡ (get_or ix.records j unused).link = ap (λ (r : Record). r.link) (record_other j ne nm) in
        rw t (link_kept blocks per pages ix con s small v refl refl j w h nm sj)
  ]

  linked : (j : ℕ) (w : Version) → j < length pages → said (get_or pages' j []) ≡ version w → Linked (held_by ys) (versions ys) w (get_or ix'.records j unused).link
  linked j w h sj = rw same_latest (linked_like (held_by xs) (v ∷ versions xs) (versions ys) there back w (get_or ix'.records j unused).link (elim (cases_eq j k) [
    | inl e ↦
        let q : w ≡ v = same_version w v (sym sj ∙ ap (λ i. said (get_or pages' i [])) e ∙ next_new) in
        let t : (get_or ix'.records j unused).link ≡ 0 = ap (λ i. (get_or ix'.records i unused).link) e ∙ ap (λ (r : Record). r.link) record_new in
        rw (t, q) (last_linked (held_by xs) (v ∷ versions xs) v (new_last (held_by xs) (versions xs) v younger))
    | inr ne ↦ old_linked j w h ne (sym (next_old j ne) ∙ sj)
  ]))

  -- The map.
  map_new : get_or ix'.map s 0 ≡ k
  map_new = ap (λ (r : Rest). get_or r.map s 0) rest_is ∙ get_or-set_same ix.map s k 0 (let w = ix.wide in omega arith)

  map_other : (u : ℕ) → (u ≡ s → ⊥) → get_or ix'.map u 0 ≡ get_or ix.map u 0
  map_other u ne = ap (λ (r : Rest). get_or r.map u 0) rest_is ∙ get_or-set_other ix.map s u k 0 ne

  new_mapped : Mapped pages' s k
  new_mapped =
      rw (lt-ltb k (length pages') (rw length-set free.inside))
      (record { last = v; stands = next_new; of_sector = refl; youngest = last_like (held_by xs) (v ∷ versions xs) (versions ys) there back v (new_last (held_by xs) (versions xs) v younger) })

  old_mapped : (u n : ℕ) → (u ≡ s → ⊥) → Mapped pages u n → Mapped pages' u n
  old_mapped u n ne mapped = elim (cases_Bool (ltb n (length pages))) [
    | inl b ↦
        let f : HasLast pages u n = when_true (HasLast pages u n) _ b mapped in
        let other = other_page pages k x (version v) con.told free.inside empty is refl n (λ e. version_says f.last (sym f.stands ∙ e)) in
        rw (length-set pages k x, b) (record {
          last = f.last;
          stands = next_old n other ∙ f.stands;
          of_sector = f.of_sector;
          youngest = last_like (held_by xs) (v ∷ versions xs) (versions ys) there back f.last (last_stays (held_by xs) (versions xs) v younger f.last (λ e. ne (sym f.of_sector ∙ sym e)) f.youngest);
        })
    | inr b ↦
        let f : (w : Version) → In w (versions xs) → w.sector ≡ u → ⊥ = when_false (HasLast pages u n) _ b mapped in
        rw (length-set pages k x, b) (λ w i e. elim (back w i) [ inl q ↦ ne (sym e ∙ ap (λ (z : Version). z.sector) q) | inr q ↦ f w q e ])
  ]

  mapped : (u : ℕ) → u < 2048 → Mapped pages' u (get_or ix'.map u 0)
  mapped u h = elim (cases_eq u s) [
    | inl e ↦ rw (e, map_new) new_mapped
    | inr ne ↦ rw (map_other u ne) (old_mapped u (get_or ix.map u 0) ne (tells.mapped u h))
  ]

  tells_next : Tells blocks per pages' ix'
  tells_next =
      let len = length-set pages k x in
      let spare_is = ap (λ (r : Rest). r.spare) rest_is in
      record {
        counted = ap (λ (r : Rest). r.pages) rest_is ∙ tells.counted ∙ sym len;
        agree = λ j h. agree j (rw len at h);
        linked = λ j w h. linked j w (rw len at h);
        mapped = mapped;
        clock = ap (λ (r : Rest). r.clock) rest_is ∙ tick ∙ sym (next_clock pages k x (version v) con.told free.inside empty is refl);
        newest = ap (λ (r : Rest). r.newest) rest_is ∙ tells.newest ∙ sym (ap (λ (g : Register). g.birth) same_latest);
        held = ap (λ (r : Rest). held_of r.held) rest_is ∙ tells.held ∙ sym (ap (λ (g : Register). g.held) same_latest);
        label = ap (λ (r : Rest). label_of r.label) rest_is ∙ tells.label ∙ sym (ap (λ (g : Register). g.label) same_latest);
        spare_block = rw spare_is tells.spare_block;
        spare_erased = rw spare_is (spare_stays per ix.spare.0 pages k x free.outside tells.spare_erased);
      }

  pub version_added : VersionAdded blocks per pages k x s c ix'
  version_added =
      record {
        consistent = record {
          tells = tells_next;
          told = version_told pages k x v con.told free.inside empty is refl;
          lone = lone_next pages k x (version v) con.told free.inside empty is refl con.lone;
        };
        reads = version_reads pages k x v con.told free.inside empty is refl ∙ add_reads xs s c;
      }
