-- What a relocated block leaves.
use Rattle.std.proofs.Common.{◌≡◌, ℕ, ◌+◌, ◌*◌, ◌<◌, ◌≤◌, Bool, true, false, ◌⊎◌, List, [], length, get_or, Ok, sym, refl, ap, ◌∙◌, subst, inl, inr, arith}
use Rattle.std.proofs.lemmas.Bool.{both_ways, cases_Bool}
use Rattle.chip.specs.Pages.{Page, is_erased, erased_page, pages_erased}
use Rattle.limits.specs.Values.{held_of}
use Rattle.readings.specs.Versions.{Version}
use Rattle.readings.specs.Sorted.{In}
use Rattle.readings.specs.Sayings.{Saying, nothing, version, said, sayings}
use Rattle.readings.specs.Reading.{birth_of}
use Rattle.readings.specs.Mount.{is_nothing}
use Rattle.readings.specs.Links.{stays_by}
use Rattle.tables.specs.declared.index.Index.{Index}
use Rattle.tables.specs.declared.types.Record.{Record}
use Rattle.tables.specs.Records.{unused, Agrees}
use Rattle.moving.specs.Sound.{Shows, Sound, LastStay, staying, page_stays, Lasting, lasting}
use Rattle.moving.specs.Kept.{Kept, stale, all_stale, stale_in, tally}
use Rattle.moving.specs.Moves.{Answer, Outside, origin, shifted, Copyable, Copied, forgotten_at, relocated_at, Relocated}
use Rattle.moving.proofs.Places.{blocks_apart, block_inside, in_or_out, is_out, is_in_lem, origin_out, origin_copied, origin_left, shifted_in, shifted_out}
use Rattle.moving.proofs.Says.{erased_page_lem, said_erased_page, stays_said, spare_says}
use Rattle.moving.proofs.Tallies.{tally_lost, count_said, at_in, in_at}
use Rattle.moving.proofs.Erasures.{length_erased, erased_in, erased_out}

module _ (blocks per : ℕ) (pages : List Page) (ix : Index) (link last_birth : ℕ → ℕ) (limit victim : ℕ)
    (sound : Sound blocks per pages ix link last_birth) (last : LastStay ix link last_birth limit) (h : victim < blocks) (two : victim ≡ ix.spare.0 → ⊥) where
  abbrev from : ℕ
  from = victim * per

  abbrev to : ℕ
  to = ix.spare.0 * per

  abbrev stay : ℕ → Bool
  stay = page_stays ix limit

  abbrev test : Saying → Bool
  test = staying ix link limit

  apart : (from + per ≤ to) ⊎ (to + per ≤ from)
  apart = blocks_apart per victim ix.spare.0 two

  pub source : from + per ≤ length pages
  source = block_inside per blocks victim (length pages) sound.whole h

  pub target : to + per ≤ length pages
  target = block_inside per blocks ix.spare.0 (length pages) sound.whole sound.spare_block

  pub copyable : Copyable blocks per pages ix link last_birth limit from to
  copyable = record { sound = sound; last_stay = last; source = source; target = target; apart = apart; free = sound.spare_erased }

  -- Where page k of the chip has its bytes from: it was copied, or it stands.
  abbrev Way : ℕ → Type 0
  Way k =
      ((i : ℕ) × (i < per) × (k ≡ to + i) × (stay (from + i) ≡ true) × (origin stay from to per k ≡ from + i))
      ⊎ (origin stay from to per k ≡ k)

  way : (k : ℕ) → Way k
  way k = elim (in_or_out to per k) [
    | inr o ↦ inr (origin_out stay from to per k o)
    | inl x ↦ elim (cases_Bool (stay (from + x.0))) [
      | inl t ↦ inl (x.0, x.1, x.2, t, ap (origin stay from to per) x.2 ∙ origin_copied stay from to per x.0 x.1 t)
      | inr t ↦ inr (ap (origin stay from to per) x.2 ∙ origin_left stay from to per x.0 x.1 t ∙ sym x.2)
    ]
  ]

  origin_inside : (k : ℕ) → k < length pages → origin stay from to per k < length pages
  origin_inside k l = elim (way k) [
    | inl w ↦ let e = w.4 in let i = w.1 in let s = source in omega arith
    | inr e ↦ omega arith
  ]

  spare_outside : (i : ℕ) → i < per → Outside from per (to + i)
  spare_outside i l = elim apart [ inl a ↦ inr (omega arith) | inr a ↦ inl (omega arith) ]

  spare_is : (i : ℕ) → i < per → said (get_or pages (to + i) []) ≡ nothing
  spare_is = spare_says blocks per pages ix link last_birth sound

  module _ (pages₁ : List Page) (ix₁ : Index) (d : Copied stay from to per pages ix pages₁ ix₁) (pages₂ : List Page) (ix₂ : Index)
      (ep : pages₂ ≡ pages_erased per blocks pages₁ victim) (er : (k : ℕ) → get_or ix₂.records k unused ≡ forgotten_at ix₁.records from per k)
      (em : ix₂.map ≡ ix₁.map) (es : ix₂.spare.0 ≡ victim) (el : lasting ix₂ ≡ lasting ix) where
    whole₁ : length pages₁ ≡ blocks * per
    whole₁ = d.long ∙ sound.whole

    long : length pages₂ ≡ length pages
    long = ap length ep ∙ length_erased per blocks pages₁ victim whole₁ h ∙ d.long

    page_in : (i : ℕ) → i < per → get_or pages₂ (from + i) [] ≡ erased_page
    page_in i l = ap (λ z. get_or z (from + i) []) ep ∙ erased_in per blocks pages₁ victim whole₁ h i l

    page_out : (k : ℕ) → Outside from per k → get_or pages₂ k [] ≡ get_or pages (origin stay from to per k) []
    page_out k o = ap (λ z. get_or z k []) ep ∙ erased_out per blocks pages₁ victim whole₁ h k o ∙ d.pages_are k

    record_in : (i : ℕ) → i < per → get_or ix₂.records (from + i) unused ≡ unused
    record_in i l = er (from + i) ∙ rw (is_in_lem from per (from + i) (omega arith) (omega arith)) refl

    record_out : (k : ℕ) → Outside from per k → get_or ix₂.records k unused ≡ get_or ix.records (origin stay from to per k) unused
    record_out k o = er k ∙ rw (is_out from per k o) (d.records_are k)

    says_in : (i : ℕ) → i < per → said (get_or pages₂ (from + i) []) ≡ nothing
    says_in i l = ap said (page_in i l) ∙ said_erased_page

    pub pages_are : (k : ℕ) → get_or pages₂ k [] ≡ relocated_at per pages stay victim ix.spare.0 k
    pages_are k = elim (in_or_out from per k) [
      | inl x ↦ let e = x.2 in let l = x.1 in ap (λ j. get_or pages₂ j []) e ∙ page_in x.0 l ∙ rw (is_in_lem from per k (omega arith) (omega arith)) refl
      | inr o ↦ page_out k o ∙ rw (is_out from per k o) refl
    ]

    -- Of a page that says something.
    programmed_out : (k : ℕ) → is_nothing (said (get_or pages₂ k [])) ≡ false → Outside from per k
    programmed_out k n = elim (in_or_out from per k) [
      | inr o ↦ o
      | inl x ↦ absurd (both_ways (is_nothing (said (get_or pages₂ k []))) n (ap (λ j. is_nothing (said (get_or pages₂ j []))) x.2 ∙ ap is_nothing (says_in x.0 x.1)))
    ]

    home : (j k : ℕ) → Outside from per j → Outside from per k → origin stay from to per j ≡ origin stay from to per k → j ≡ k
    home j k a b e = go (way j) (way k)
      where
        never : (i k : ℕ) → i < per → Outside from per k → from + i ≡ k → ⊥
        never i k l (inl o) f = omega arith
        never i k l (inr o) f = omega arith

        go : Way j → Way k → j ≡ k
        go (inl v) (inl w) = let f : v.0 ≡ w.0 = let x = v.4 in let y = w.4 in omega arith in v.2 ∙ ap (λ i. to + i) f ∙ sym w.2
        go (inl v) (inr w) = absurd (never v.0 k v.1 b (sym v.4 ∙ e ∙ w))
        go (inr v) (inl w) = absurd (never w.0 j w.1 a (sym w.4 ∙ sym e ∙ v))
        go (inr v) (inr w) = sym v ∙ e ∙ w

    lone : (j k : ℕ) → j < length pages₂ → k < length pages₂ → is_nothing (said (get_or pages₂ j [])) ≡ false → is_nothing (said (get_or pages₂ k [])) ≡ false →
        birth_of (said (get_or pages₂ j [])) ≡ birth_of (said (get_or pages₂ k [])) → j ≡ k
    lone j k lj lk nj nk e =
        let oj = programmed_out j nj in
        let ok = programmed_out k nk in
        let n = long in
        let pj = ap said (page_out j oj) in
        let pk = ap said (page_out k ok) in
        home j k oj ok (sound.lone (origin stay from to per j) (origin stay from to per k) (origin_inside j (omega arith)) (origin_inside k (omega arith))
        (ap is_nothing (sym pj) ∙ nj) (ap is_nothing (sym pk) ∙ nk) (ap birth_of (sym pj) ∙ e ∙ ap birth_of pk))

    agree : (k : ℕ) → k < length pages₂ → Agrees (said (get_or pages₂ k [])) (get_or ix₂.records k unused)
    agree k l = let n = long in elim (in_or_out from per k) [
      | inl x ↦
          rw (x.2, says_in x.0 x.1, record_in x.0 x.1) refl
      | inr o ↦ rw (page_out k o, record_out k o) (sound.agree (origin stay from to per k) (origin_inside k (omega arith)))
    ]

    links : (k : ℕ) (v : Version) → k < length pages₂ → said (get_or pages₂ k []) ≡ version v → (get_or ix₂.records k unused).link ≡ link v.birth
    links k v l e = let n = long in elim (in_or_out from per k) [
      | inl x ↦
          let f : nothing ≡ version v = sym (says_in x.0 x.1) ∙ ap (λ j. said (get_or pages₂ j [])) (sym x.2) ∙ e in
          let z : ◌≡◌ {A = ℕ} 0 1 = cc in absurd (omega arith)
      | inr o ↦
          ap (λ (r : Record). r.link) (record_out k o) ∙ sound.links (origin stay from to per k) v (origin_inside k (omega arith)) (ap said (sym (page_out k o)) ∙ e)
    ]

    -- Where the map points to.
    map_at : (s : ℕ) → s < 2048 → get_or ix₂.map s 0 ≡ shifted from to per (get_or ix.map s 0)
    map_at s l = ap (λ z. get_or z s 0) em ∙ d.map_is s l

    unmapped : (s : ℕ) → s < 2048 → last_birth s ≡ 0 → length pages₂ ≤ get_or ix₂.map s 0
    unmapped s l e =
        let n = long in
        let b = sound.unmapped s l e in
        let a = source in
        let f = map_at s l ∙ shifted_out from to per (get_or ix.map s 0) (inr (omega arith)) in omega arith

    -- The page that showed the version, or its copy.
    shows_at : (s m : ℕ) → s < 2048 → Shows pages s (last_birth s) m → stay m ≡ true → Shows pages₂ s (last_birth s) (shifted from to per m)
    shows_at s m l w t = elim (in_or_out from per m) [
      | inl x ↦
          let i = x.0 in
          let il = x.1 in
          let e : shifted from to per m ≡ to + i = ap (shifted from to per) x.2 ∙ shifted_in from to per i il in
          let o : origin stay from to per (to + i) ≡ from + i = origin_copied stay from to per i il (ap stay (sym x.2) ∙ t) in
          let says : said (get_or pages₂ (shifted from to per m) []) ≡ version w.shown =
          ap (λ j. said (get_or pages₂ j [])) e ∙ ap said (page_out (to + i) (spare_outside i il)) ∙ ap (λ j. said (get_or pages j [])) (o ∙ sym x.2) ∙ w.says in
          let n = long in
          let a = target in
          record { inside = omega arith; shown = w.shown; says = says; of_sector = w.of_sector; born = w.born }
      | inr o ↦
          let e : shifted from to per m ≡ m = shifted_out from to per m o in
          let still : origin stay from to per m ≡ m = stands m w in
          let says : said (get_or pages₂ (shifted from to per m) []) ≡ version w.shown =
          ap (λ j. said (get_or pages₂ j [])) e ∙ ap said (page_out m o) ∙ ap (λ j. said (get_or pages j [])) still ∙ w.says in
          let n = long in
          let a = w.inside in
          record { inside = omega arith; shown = w.shown; says = says; of_sector = w.of_sector; born = w.born }
    ]
      where
        stands : (m : ℕ) → Shows pages s (last_birth s) m → origin stay from to per m ≡ m
        stands m w = elim (way m) [
          | inr e ↦ e
          | inl v ↦
              let f : nothing ≡ version w.shown = sym (spare_is v.0 v.1) ∙ ap (λ j. said (get_or pages j [])) (sym v.2) ∙ w.says in
              let z : ◌≡◌ {A = ℕ} 0 1 = cc in absurd (omega arith)
        ]

    mapped : (s : ℕ) → s < 2048 → 0 < last_birth s → Shows pages₂ s (last_birth s) (get_or ix₂.map s 0)
    mapped s l b =
        let m = get_or ix.map s 0 in
        let w = sound.mapped s l b in
        let t : stay m ≡ true =
        stays_said blocks per pages ix link last_birth sound limit m w.inside ∙ ap test w.says ∙ ap (λ b. stays_by (held_of ix.held) limit b (link b)) w.born ∙ last s l b in
        subst (Shows pages₂ s (last_birth s)) (sym (map_at s l)) (shows_at s m l w t)

    pub sound_after : Sound blocks per pages₂ ix₂ link last_birth
    sound_after =
        record {
          counted = ap (λ (l : Lasting). l.pages) el ∙ sound.counted ∙ sym long;
          fits = let n = long in let f = sound.fits in omega arith;
          whole = long ∙ sound.whole;
          agree = agree;
          links = links;
          lone = lone;
          unmapped = unmapped;
          mapped = mapped;
          spare_block = rw es h;
          spare_erased = λ k l. ap (λ b. is_erased (get_or pages₂ (b * per + k) [])) es ∙ ap is_erased (page_in k l) ∙ erased_page_lem;
        }

    pub kept_after : Kept test pages pages₂
    kept_after =
        record {
          long = long;
          less = λ x i.
              let r = in_at pages₂ x i in
              let n = long in
              let l = r.1 in
              elim (in_or_out from per r.0) [
                | inl y ↦ inl (sym r.2 ∙ ap (λ j. said (get_or pages₂ j [])) y.2 ∙ says_in y.0 y.1)
                | inr o ↦
                    inr (subst (λ z. In z (sayings pages)) (ap said (sym (page_out r.0 o)) ∙ r.2) (at_in pages (origin stay from to per r.0) (origin_inside r.0 (omega arith))))
              ];
          holds = λ x i t. let r = in_at pages x i in subst (λ z. In z (sayings pages₂)) r.2 (held r.0 r.1 (ap test r.2 ∙ t));
        }
      where
        found : (j k : ℕ) → k < length pages → said (get_or pages₂ k []) ≡ said (get_or pages j []) → In (said (get_or pages j [])) (sayings pages₂)
        found j k l e = subst (λ z. In z (sayings pages₂)) e (at_in pages₂ k (let n = long in omega arith))

        held : (k : ℕ) → k < length pages → test (said (get_or pages k [])) ≡ true → In (said (get_or pages k [])) (sayings pages₂)
        held k l t = elim (in_or_out from per k) [
          | inl x ↦
              let i = x.0 in
              let il = x.1 in
              let a = target in
              let s : stay (from + i) ≡ true = ap stay (sym x.2) ∙ stays_said blocks per pages ix link last_birth sound limit k l ∙ t in
              found k (to + i) (omega arith) (ap said (page_out (to + i) (spare_outside i il)) ∙ ap (λ j. said (get_or pages j [])) (origin_copied stay from to per i il s ∙ sym x.2))
          | inr o ↦ elim (way k) [
            | inr e ↦ found k k l (ap said (page_out k o) ∙ ap (λ j. said (get_or pages j [])) e)
            | inl w ↦
                absurd (both_ways (test (said (get_or pages k []))) (ap (λ j. test (said (get_or pages j []))) w.2 ∙ ap test (spare_is w.0 w.1)) t)
          ]
        ]

    pub lost_after : all_stale test pages ≡ all_stale test pages₂ + stale_in test pages from per
    lost_after =
        let p : ℕ → Bool = λ k. stale test (said (get_or pages k [])) in
        let q : ℕ → Bool = λ k. stale test (said (get_or pages₂ k [])) in
        let e = tally_lost p q (length pages) from per source same (λ i l. ap (stale test) (says_in i l)) in
        count_said (stale test) pages ∙ e ∙ ap (λ n. n + tally p from per) (ap (tally q 0) (sym long) ∙ sym (count_said (stale test) pages₂))
      where
        not_stale : (x : Saying) → test x ≡ true → stale test x ≡ false
        not_stale x t = rw t (grind arith)

        same : (k : ℕ) → k < length pages → Outside from per k → stale test (said (get_or pages k [])) ≡ stale test (said (get_or pages₂ k []))
        same k l o = elim (way k) [
          | inr e ↦ ap (λ z. stale test (said z)) (sym (page_out k o ∙ ap (λ j. get_or pages j []) e))
          | inl w ↦
              let i = w.1 in
              let a = source in
              let s : test (said (get_or pages (from + w.0) [])) ≡ true = sym (stays_said blocks per pages ix link last_birth sound limit (from + w.0) (omega arith)) ∙ w.3 in
              let f : said (get_or pages₂ k []) ≡ said (get_or pages (from + w.0) []) = ap said (page_out k o ∙ ap (λ j. get_or pages j []) w.4) in
              ap (λ j. stale test (said (get_or pages j []))) w.2 ∙ ap (stale test) (spare_is w.0 i) ∙ sym (ap (stale test) f ∙ not_stale (said (get_or pages (from + w.0) [])) s)
        ]

    pub relocated : (r : Answer) → r ≡ Ok tt → Relocated blocks per pages ix link last_birth limit victim r pages₂ ix₂
    relocated r ok =
        record {
          ok = ok;
          sound = sound_after;
          kept = kept_after;
          lost = lost_after;
          spare = es;
          pages_are = λ k _. pages_are k;
        }
