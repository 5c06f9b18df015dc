-- The needed versions, counted by the records.
use Rattle.std.proofs.Common.{◌≡◌, ℕ, suc, ◌+◌, ◌<◌, ◌≤◌, Bool, true, cond, ltb, List, [], ◌∷◌, length, get_or, take, set, Some, None, sym, refl, ap, ◌∙◌, inl, inr, arith, length-set}
use Rattle.std.proofs.Math.Seq.{take-set-lt}
use Rattle.std.proofs.lemmas.List.{get_or-set_same, get_or-set_other, get_or-take, length-take-le, take-set-le}
use Rattle.std.proofs.lemmas.List.Sums.{sum_by-set}
use Rattle.std.proofs.lemmas.Bool.{cases_eq, cases_lt, lt-ltb, le-ltb, ne_eqb, cond-true, cond-false}
use Rattle.chip.specs.Pages.{Page}
use Rattle.limits.specs.Values.{held_of}
use Rattle.readings.specs.Versions.{Content, Version, put, keep, needed, settle, Reading, add}
use Rattle.readings.specs.Sorted.{In, sort, reading_of, Apart}
use Rattle.readings.specs.Sayings.{Saying, nothing, version, register, bad, said, sayings}
use Rattle.readings.specs.Reading.{birth_of, with_version, versions, clock_of, latest, held_by, reading}
use Rattle.readings.specs.Meaning.{Once}
use Rattle.readings.specs.Links.{Linked}
use Rattle.readings.specs.Mount.{is_nothing}
use Rattle.readings.proofs.Meaning.{words_mean}
use Rattle.tables.specs.declared.index.Index.{Index}
use Rattle.tables.specs.declared.types.Record.{Record}
use Rattle.tables.specs.Records as records
use Rattle.tables.specs.Records.{unused, held_between, is_needed, Agrees}
use Rattle.tables.proofs.Needs.{need_is_test, counted}
use Rattle.tables.proofs.Said.{says_at, in_versions}
use Rattle.noting.specs.Consistent.{Lone, Consistent}
use Rattle.noting.specs.Lookups.{page_number}
use Rattle.noting.specs.Counting.{needed_count, growth, needed_after}
use Rattle.noting.specs.Noted.{relinked}
use Rattle.noting.proofs.Added.{apart, add_reads}
use Rattle.noting.proofs.Linked.{last_linked, new_last}
use Rattle.noting.proofs.Version.{relinked_agrees, former_last, old_births, former_link, link_replaced, link_kept}
use Rattle.noting.proofs.Youngest.{version_is}

-- No version stands twice.
pub lone_once : (pages : List Page) → Lone pages → Once (versions (sayings pages))
unfolding versions
lone_once [] lone = tt
lone_once (p ∷ ps) lone =
    go (said p) refl (lone_once ps (λ j k hj hk sj sk e. let z : suc j ≡ suc k = lone (suc j) (suc k) (omega arith) (omega arith) sj sk e in omega arith))
  where
    go : (y : Saying) → said p ≡ y → Once (versions (sayings ps)) → Once (with_version y (versions (sayings ps)))
    go nothing e rest = rest
    go (version v) e rest = (
      λ w i b.
          let r = says_at ps (version w) (in_versions (sayings ps) w i) in
          let h = r.1 in
          let z : ◌≡◌ {A = ℕ} 0 (suc r.0) = lone 0 (suc r.0) (omega arith) (omega arith) (ap is_nothing e) (ap is_nothing r.2) (ap birth_of e ∙ sym b ∙ sym (ap birth_of r.2)) in
          omega arith,
      rest,
    )
    go (register g) e rest = rest
    go (bad c) e rest = rest

module _ (blocks per : ℕ) (pages : List Page) (ix : Index) (con : Consistent blocks per pages ix) where
  abbrev xs : List Saying
  xs = sayings pages

  all_pages : length pages ≤ length ix.records
  all_pages = let a = con.tells.counted in let b = ix.few in let c = ix.long in omega arith

  counted_as : (rs : List Record) → records.needed_count (held_of ix.held) (take ix.pages rs) ≡ records.needed_count (latest xs).held (take (length pages) rs)
  counted_as rs = (λ i. records.needed_count (con.tells.held i) (take (con.tells.counted i) rs))

  pub count_reads : needed_count ix ≡ length (reading xs).versions
  unfolding reading reading_of settle
  count_reads =
      counted_as ix.records
      ∙ counted pages (latest xs).held (versions xs) ix.records (apart xs con.told) (λ v i. i) con.tells.agree con.tells.linked all_pages
      ∙ sym (words_mean.counted_in_place (held_by xs) (versions xs) (lone_once pages con.lone))

-- One version more, younger than all.
apart_more : (vs : List Version) (v : Version) → Apart vs → ((w : Version) → In w vs → w.birth < v.birth) → Apart (v ∷ vs)
apart_more vs v a old x y (inl i) (inl j) e = i ∙ sym j
apart_more vs v a old x y (inl i) (inr j) e = let q = old y j in let z : x.birth ≡ v.birth = ap (λ (w : Version). w.birth) i in absurd (omega arith)
apart_more vs v a old x y (inr i) (inl j) e = let q = old x i in let z : y.birth ≡ v.birth = ap (λ (w : Version). w.birth) j in absurd (omega arith)
apart_more vs v a old x y (inr i) (inr j) e = a x y i j e

-- A count, where one record is another.
recount : (held : List ℕ) (rs : List Record) (n m : ℕ) (r : Record) → m < n → n ≤ length rs → is_needed held (get_or rs m unused) ≡ true →
    suc (records.needed_count held (take n (set rs m r))) ≡ records.needed_count held (take n rs) + cond (is_needed held r) 1 0
recount held rs n m r h l t =
    let one : Record → ℕ = λ x. cond (is_needed held x) 1 0 in
    let s = sum_by-set one (take n rs) m r unused (let z = length-take-le n rs l in omega arith) in
    let o : one (get_or (take n rs) m unused) ≡ 1 = rw (get_or-take n rs m unused h, t) refl in
    ap (λ l. suc (records.needed_count held l)) (take-set-lt n rs m r h) ∙ (let z : suc (records.needed_count held (set (take n rs) m r)) ≡ records.needed_count held (take n rs) + one r = omega arith in z)

module _ (blocks per : ℕ) (pages : List Page) (ix : Index) (con : Consistent blocks per pages ix) (s : ℕ) (small : s < 2048) (c : Content) where
  abbrev ys : List Saying
  ys = sayings pages

  abbrev v : Version
  v = record { sector = s; birth = suc (clock_of ys); content = c }

  abbrev vs : List Version
  vs = versions ys

  abbrev m : ℕ
  m = get_or ix.map s 0

  abbrev at : ℕ → Record
  at k = get_or ix.records k unused

  -- The records then, without that of the new version.
  abbrev next : List Record
  next = set ix.records m (relinked (at m) v.birth)

  abbrev counts : List Record → ℕ
  counts rs = records.needed_count (held_of ix.held) (take ix.pages rs)

  younger : (w : Version) → In w vs → w.birth < v.birth
  younger = old_births blocks per pages ix con s small v refl refl

  apart_next : Apart (v ∷ vs)
  apart_next = apart_more vs v (apart ys con.told) younger

  long : length pages ≤ length ix.records
  long = all_pages blocks per pages ix con

  at_next : (k : ℕ) → (P : Record → Type 0) → k < length pages → (k ≡ m → P (relinked (at m) v.birth)) → ((k ≡ m → ⊥) → P (at k)) → P (get_or next k unused)
  at_next k P h here other = elim (cases_eq k m) [
    | inl e ↦ rw (e, get_or-set_same ix.records m (relinked (at m) v.birth) unused (let l = long in omega arith)) (here e)
    | inr ne ↦ rw (get_or-set_other ix.records m k (relinked (at m) v.birth) unused ne) (other ne)
  ]

  agree : (k : ℕ) → k < length pages → Agrees (said (get_or pages k [])) (get_or next k unused)
  agree k h =
      at_next k (Agrees (said (get_or pages k []))) h (λ e. rw e (relinked_agrees (said (get_or pages m [])) (at m) v.birth (con.tells.agree m (rw e at h)))) (λ ne. con.tells.agree k h)

  linked : (k : ℕ) (w : Version) → k < length pages → said (get_or pages k []) ≡ version w → Linked (held_by ys) (v ∷ vs) w (get_or next k unused).link
  linked k w h t =
      at_next k (λ r. Linked (held_by ys) (v ∷ vs) w r.link) h
      (λ e. link_replaced blocks per pages ix con s small v refl refl w (rw e at h) (ap (λ i. said (get_or pages i [])) (sym e) ∙ t))
      (λ ne. link_kept blocks per pages ix con s small v refl refl k w h ne t)

  after_count : suc (counts next) ≡ length (add (reading ys) s c).versions
  unfolding reading reading_of settle keep
  after_count =
      let held = held_by ys in
      let f = needed held (sort (v ∷ vs)) in
      let here : f v ≡ true = need_is_test held (v ∷ vs) v apart_next (inl refl) 0 (last_linked held (v ∷ vs) v (new_last held vs v younger)) in
      let all : counts next ≡ length (keep f vs) =
      counted_as blocks per pages ix con next ∙ counted pages (latest ys).held (v ∷ vs) next apart_next (λ w i. inr i) agree linked (rw length-set long) in
      let once : Once (v ∷ vs) = (λ w i e. let q = younger w i in omega arith, lone_once pages con.lone) in
      ap suc all ∙ flip (f v) here (keep f vs)
      ∙ sym (words_mean.counted_in_place held (v ∷ vs) once)
      ∙ ap (λ (r : Reading). length r.versions) (add_reads ys s c)
    where
      flip : (b : Bool) → b ≡ true → (l : List Version) → suc (length l) ≡ length (put b v l)
      flip b e l = rw e refl

  grows : suc (counts next) ≡ needed_after ix s
  grows =
      let count = con.tells.counted in
      let far = long in
      elim (cases_lt m ix.pages) [
        | inl h ↦
            let h' : m < length pages = omega arith in
            let f = former_last blocks per pages ix con s small h' in
            let a : Agrees (version f.last) (at m) = rw f.stands at (con.tells.agree m h') in
            let is = version_is f.last (at m) a in
            let l = former_link blocks per pages ix con s small v refl refl f.last h' f.stands in
            let p : is_needed (held_of ix.held) (at m) ≡ true = rw (is, l) refl in
            let q : is_needed (held_of ix.held) (relinked (at m) v.birth) ≡ held_between (held_of ix.held) (at m).birth (suc ix.clock) =
            rw (is, con.tells.clock, ne_eqb (suc (clock_of ys)) 0 (λ z. omega arith)) refl in
            recount (held_of ix.held) ix.records ix.pages m (relinked (at m) v.birth) h (omega arith) p
            ∙ ap (λ b. needed_count ix + cond b 1 0) q
            ∙ ap (λ o. needed_count ix + growth ix o) (sym (cond-true (ltb m ix.pages) (Some (page_number m)) None (lt-ltb m ix.pages h)))
        | inr h ↦
            let z : suc (needed_count ix) ≡ needed_count ix + 1 = omega arith in
            ap (λ l. suc (records.needed_count (held_of ix.held) l)) (take-set-le ix.pages ix.records m (relinked (at m) v.birth) h) ∙ z
            ∙ ap (λ o. needed_count ix + growth ix o) (sym (cond-false (ltb m ix.pages) (Some (page_number m)) None (le-ltb m ix.pages h)))
      ]

  pub after_reads : needed_after ix s ≡ length (add (reading ys) s c).versions
  after_reads = sym grows ∙ after_count
