-- What a cut at a held number needs of the memory, and leaves in it.
use Rattle.std.proofs.Common.{◌≡◌, ℕ, ◌+◌, ◌-◌, ◌*◌, ◌<◌, ◌≤◌, Bool, ◌&&◌, eqb, ltb, leb, ◌⊎◌, List, [], reverse, length, get_or, sym, refl, ap, ◌∙◌, subst, inl, inr, mul-le-mul_right, one-mul, arith}
use Rattle.std.proofs.lemmas.Bool.Decides.{when_true, when_false}
use Rattle.std.proofs.lemmas.Bool.{cases_eq, cases_lt, eq-eqb, ne_eqb, lt-ltb, le-ltb, le-leb, cond-true, cond-false, and_parts}
use Rattle.chip.specs.Pages.{Page, is_erased}
use Rattle.chip.specs.declared.BlockNumber.{BlockNumber}
use Rattle.limits.specs.Values.{held_of}
use Rattle.readings.specs.Versions.{Version, Bound, now, upto, Reading, keep, has, needed, settle, leave}
use Rattle.readings.specs.Sorted.{In, sort, reading_of, Enough}
use Rattle.readings.specs.Meaning.{Within}
use Rattle.readings.specs.Sayings.{Register, Saying, nothing, version, register, bad, said, sayings}
use Rattle.readings.specs.Reading.{birth_of, versions, latest, held_by, reading, Told}
use Rattle.readings.specs.Links.{IsLast, IsLink, Linked, stays_by}
use Rattle.readings.specs.Mount.{capacity}
use Rattle.readings.proofs.Lists.{keep_ext, all_in, has_keep}
use Rattle.readings.proofs.Sorted.{keep_in}
use Rattle.readings.proofs.Settle.{Counts}
use Rattle.readings.proofs.Meaning.{words_mean}
use Rattle.tables.specs.Records.{unused, Agrees}
use Rattle.tables.specs.Tells.{HasLast, Mapped}
use Rattle.tables.specs.declared.index.Index.{Index}
use Rattle.tables.specs.declared.types.Record.{Record}
use Rattle.moving.specs.Sound.{Sound, LastStay}
use Rattle.keeping.specs.Stored.{Lone, Stored}
use Rattle.keeping.specs.Opened.{Opened, link_in, last_birth_in}
use Rattle.keeping.specs.Cut.{cut_stays, Cuttable, held_left, Cut, next_register, Registers}
use Rattle.keeping.specs.Reopened.{HasYoungest, NoneUpTo, Prepared, LastUpTo, PreparedCanCut, PreparedKeeps, CutHasRoom, cut_link, Restarted, CutReopens}
use Rattle.keeping.proofs.Accepted.{stored_is_accepted}
use Rattle.keeping.proofs.Blocks.{block_erased}
use Rattle.keeping.proofs.Births.{lone_distinct}
use Rattle.keeping.proofs.Cleaned.{all_within}
use Rattle.keeping.proofs.Cut.{cut_need, need_left, left_reverse, apart_early, from_before, old, enough_early, cut_reading, cut_reads}
use Rattle.keeping.proofs.Links.{when_of_true, when_of_false, youngest_left}
use Rattle.keeping.proofs.Lists.{at_says, keep_short}
use Rattle.keeping.proofs.Opened.{stored, linked_in, has_held, stays_shown, opened_is_sound}
use Rattle.keeping.proofs.Reading.{in_versions, versions_in, dated_less, once_less, needs_left}
use Rattle.keeping.proofs.Registers.{says_register, says_else, versions_are, clock_next, latest_next}
use Rattle.keeping.proofs.Room.{once_versions, count_one}

-- The map before a cut.
module _ (blocks per : ℕ) (pages : List Page) (ix : Index) (n : ℕ) (left : ℕ → Bool) (ix' : Index) (o : Opened blocks per pages ix) (c : Cuttable ix n left) (p : Prepared pages ix n left ix') where
  abbrev vs : List Version
  vs = versions (sayings pages)

  module _ (s : ℕ) (h : s < 2048) where
    abbrev m : ℕ
    m = get_or ix'.map s 0

    module _ (inside : m < length pages) where
      has_youngest : HasYoungest pages n s m
      has_youngest = when_true (HasYoungest pages n s m) (NoneUpTo pages n s) (lt-ltb m (length pages) inside) (p.mapped s h)

      birth_is : last_birth_in pages ix' s ≡ has_youngest.last.birth
      birth_is = cond-true (ltb m (length pages)) (birth_of (said (get_or pages m []))) 0 (lt-ltb m (length pages) inside) ∙ ap birth_of has_youngest.stands

      birth_first : 0 < has_youngest.last.birth
      birth_first = ((stored blocks per pages ix o).limits (version has_youngest.last) (in_versions (sayings pages) has_youngest.last has_youngest.youngest.stands)).first

      -- Nothing up to n replaced it.
      link_past : (link_in pages ix has_youngest.last.birth ≡ 0) ⊎ (n < link_in pages ix has_youngest.last.birth)
      link_past = go (link_in pages ix has_youngest.last.birth) (linked_in blocks per pages ix o has_youngest.last has_youngest.youngest.stands)
        where
          go : (t : ℕ) → Linked (held_by (sayings pages)) vs has_youngest.last t → (t ≡ 0) ⊎ (n < t)
          go t l = elim (cases_eq t 0) [
            | inl z ↦ inl z
            | inr nz ↦ elim (cases_lt n t) [
              | inl a ↦ inr a
              | inr a ↦
                  let link = when_false (IsLast vs has_youngest.last) (IsLink (held_by (sayings pages)) vs has_youngest.last t) (ne_eqb t 0 nz) l in
                  let r = link.seen n (has_held blocks per pages ix o n c.is_held) a in
                  let q = has_youngest.youngest.none_younger r.0 r.1 (r.2 ∙ has_youngest.youngest.of_sector) r.4 in
                  let b = r.3 in
                  absurd (omega arith)
            ]
          ]

    unborn_outside : last_birth_in pages ix' s ≡ 0 → length pages ≤ m
    unborn_outside e = elim (cases_lt m (length pages)) [
      | inl i ↦ let a = birth_is i in let b = birth_first i in absurd (omega arith)
      | inr out ↦ out
    ]

    born_inside : 0 < last_birth_in pages ix' s → m < length pages
    born_inside b = elim (cases_lt m (length pages)) [
      | inl i ↦ i
      | inr out ↦ let a = cond-false (ltb m (length pages)) (birth_of (said (get_or pages m []))) 0 (le-ltb m (length pages) out) in absurd (omega arith)
    ]

  lasts : LastUpTo pages n (last_birth_in pages ix')
  lasts =
      record {
        none = λ s h e. when_false (HasYoungest pages n s (m s h)) (NoneUpTo pages n s) (le-ltb (m s h) (length pages) (unborn_outside s h e)) (p.mapped s h);
        last = λ s h b. let i = born_inside s h b in ((has_youngest s h i).last, (has_youngest s h i).youngest, sym (birth_is s h i));
      }

  sound : Sound blocks per pages ix' (link_in pages ix) (last_birth_in pages ix')
  sound =
      let before = opened_is_sound blocks per pages ix o in
      record {
        counted = p.counted ∙ before.counted;
        fits = before.fits;
        whole = before.whole;
        agree = λ k h. subst (λ (rs : List Record). Agrees (said (get_or pages k [])) (get_or rs k unused)) (sym p.records) (before.agree k h);
        links = λ k v h e. ap (λ (rs : List Record). (get_or rs k unused).link) p.records ∙ before.links k v h e;
        lone = before.lone;
        unmapped = unborn_outside;
        mapped = λ s h b.
            let i = born_inside s h b in
            let y = has_youngest s h i in
            record { inside = i; shown = y.last; says = y.stands; of_sector = y.youngest.of_sector; born = sym (birth_is s h i) };
        spare_block = subst (λ (b : BlockNumber). b.0 < blocks) (sym p.spare) before.spare_block;
        spare_erased = λ k h. ap (λ (b : BlockNumber). is_erased (get_or pages (b.0 * per + k) [])) p.spare ∙ before.spare_erased k h;
      }

  last_stay : LastStay ix' (link_in pages ix) (last_birth_in pages ix') n
  last_stay s h b =
      let i = born_inside s h b in
      let e = birth_is s h i in
      let u = (has_youngest s h i).youngest.in_time in
      let l : (link_in pages ix (last_birth_in pages ix' s) ≡ 0) ⊎ (n < link_in pages ix (last_birth_in pages ix' s)) =
      subst (λ k. (link_in pages ix k ≡ 0) ⊎ (n < link_in pages ix k)) (sym e) (link_past s h i) in
      stays_shown (held_of ix'.held) n (last_birth_in pages ix' s) (link_in pages ix (last_birth_in pages ix' s)) (omega arith) l

pub prepared_can_cut : PreparedCanCut
prepared_can_cut blocks per pages ix n left ix' o c p =
    record {
      sound = sound blocks per pages ix n left ix' o c p;
      last_stay = last_stay blocks per pages ix n left ix' o c p;
      lasts = lasts blocks per pages ix n left ix' o c p;
    }

pub prepared_keeps : PreparedKeeps
prepared_keeps pages ix n left ix' p nothing = refl
prepared_keeps pages ix n left ix' p (version v) = ap (λ h. stays_by h n v.birth (link_in pages ix v.birth)) p.held
prepared_keeps pages ix n left ix' p (register r) = ap (eqb r.birth) p.newest
prepared_keeps pages ix n left ix' p (bad cause) = refl

-- After the cut.
module _ (blocks per : ℕ) (pages : List Page) (ix : Index) (n : ℕ) (left : ℕ → Bool) (pages' : List Page) (o : Opened blocks per pages ix) (c : Cuttable ix n left) (cut : Cut pages ix n left pages') where
  abbrev xs : List Saying
  xs = sayings pages

  abbrev ys : List Saying
  ys = sayings pages'

  abbrev early : Version → Bool
  early w = leb w.birth n

  abbrev held : List ℕ
  held = keep left (held_by xs)

  left_enough : Enough held (keep early (versions xs)) (versions ys)
  left_enough = enough_early blocks per pages ix n left o c pages' cut

  before : (v : Version) → In v (versions ys) → In v (versions xs)
  before = from_before blocks per pages ix n left o c pages' cut

  -- A cut needs no more versions than there were.
  few : length (leave left (λ b. leb b n) (reading xs)).versions ≤ capacity blocks per
  unfolding settle
  few =
      let all = (reading xs).versions in
      let a = keep_short (λ (v : Version). leb v.birth n) all in
      let b = keep_short (needed (keep left (reading xs).held) (keep (λ (v : Version). leb v.birth n) all)) (keep (λ (v : Version). leb v.birth n) all) in
      let r = (stored blocks per pages ix o).room in
      omega arith

  test_is : (v : Version) → In v (versions ys) → stays_by (held_left ix left) n v.birth (link_in pages ix v.birth) ≡ needed held (sort (versions ys)) v
  test_is v i =
      cut_need blocks per pages ix n left o c v (before v i)
      ∙ ap (λ b. b && needed (held_left ix left) (sort (keep early (versions xs))) v) (le-leb v.birth n (cut.none_later v i))
      ∙ need_left blocks per pages ix n left o c (sort (keep early (versions xs))) v
      ∙ sym (needs_left held (keep early (versions xs)) (versions ys) (apart_early blocks per pages ix n left o c) left_enough v)

  count : Lone pages' → length (keep (cut_stays pages ix (held_left ix left) n) ys) ≡ length (leave left (λ b. leb b n) (reading xs)).versions + 1
  unfolding reading_of
  count lone =
      let d = lone_distinct pages' lone in
      let test : Version → Bool = λ v. stays_by (held_left ix left) n v.birth (link_in pages ix v.birth) in
      let told = (stored blocks per pages ix o).told in
      let has_latest = cut.kept.holds (register (latest xs)) told.begun (eq-eqb (latest xs).birth ix.newest (sym o.tells.newest)) in
      count_one test ix.newest ys d (latest xs, has_latest, sym o.tells.newest)
      ∙ ap (λ (l : List Version). length l + 1) (keep_ext test (needed held (sort (versions ys))) (versions ys) (all_in (λ v. test v ≡ needed held (sort (versions ys)) v) (versions ys) test_is))
      ∙ ap (λ k. k + 1) (sym (words_mean.counted_in_place held (versions ys) (once_versions ys d))
      ∙ ap (λ (r : Reading). length r.versions) (cut_reading blocks per pages ix n left o c pages' cut))

  room : Lone pages' → 2 ≤ per → length (keep (cut_stays pages ix (held_left ix left) n) ys) + 1 ≤ (blocks - 1) * per
  room lone two =
      let e = count lone in
      let f = few in
      let t = (stored blocks per pages ix o).two_blocks in
      let k : 1 * per ≤ (blocks - 1) * per = mul-le-mul_right {m = 1} {n = blocks - 1} per (omega arith) in
      let l = one-mul per in
      omega arith

  -- Links after the cut.
  module _ (v : Version) (i : In v (versions ys)) (t : ℕ) (linked : Linked (held_by xs) (versions xs) v t) where
    last_after : (t ≡ 0) ⊎ (n < t) → IsLast (versions ys) v
    last_after (inl z) w j e = when_true (IsLast (versions xs) v) (IsLink (held_by xs) (versions xs) v t) (eq-eqb t 0 z) linked w (before w j) e
    last_after (inr a) w j e = elim (cases_lt v.birth w.birth) [
      | inr b ↦ b
      | inl b ↦
          let nz : t ≡ 0 → ⊥ = λ z. omega arith in
          let q = (when_false (IsLast (versions xs) v) (IsLink (held_by xs) (versions xs) v t) (ne_eqb t 0 nz) linked).none_between w (before w j) e b in
          let u = cut.none_later w j in
          absurd (omega arith)
    ]

    -- What was younger than v within a bound that counts still stands, or something younger.
    stands : (b : Bound) → Counts held b → (w : Version) → In w (versions xs) → w.sector ≡ v.sector → w.birth ≤ n → Within b w.birth →
        (u : Version) × In u (versions ys) × (u.sector ≡ v.sector) × Within b u.birth × (w.birth ≤ u.birth)
    stands b k w j e l h =
        let u = youngest_left held (keep early (versions xs)) (versions ys) (apart_early blocks per pages ix n left o c) left_enough b k w (keep_in early (versions xs) w j (le-leb w.birth n l)) h in
        (u.0, u.1, u.2 ∙ e, u.3, u.4)

    link_after : (t ≡ 0 → ⊥) → t ≤ n → IsLink held (versions ys) v t
    link_after nz low =
        let link = when_false (IsLast (versions xs) v) (IsLink (held_by xs) (versions xs) v t) (ne_eqb t 0 nz) linked in
        record {
          later = link.later;
          none_between = λ w j e h. link.none_between w (before w j) e h;
          replaced =
              let r = link.seen n (has_held blocks per pages ix o n c.is_held) low in
              let u = stands now tt r.0 r.1 r.2 r.4 tt in
              let q = link.none_between r.0 r.1 r.2 r.3 in
              let b = u.4 in
              (u.0, u.1, u.2, omega arith);
          seen = λ h j l.
              let k = and_parts (has h (held_by xs)) (left h) (sym (has_keep left (held_by xs) h) ∙ j) in
              let r = link.seen h k.0 l in
              let top = c.none_above h k.1 in
              let a = r.4 in
              let u = stands (upto h) j r.0 r.1 r.2 (omega arith) r.4 in
              let b = u.4 in
              let d = r.3 in
              (u.0, u.1, u.2, omega arith, u.3);
        }

    pub linked_after : Linked held (versions ys) v (cut_link n t)
    linked_after = elim (cases_lt n t) [
      | inl a ↦
          let e : cut_link n t ≡ 0 = cond-true (ltb n t) 0 t (lt-ltb n t a) in
          when_of_true (eqb (cut_link n t) 0) (IsLast (versions ys) v) (IsLink held (versions ys) v (cut_link n t)) (eq-eqb (cut_link n t) 0 e) (last_after (inr a))
      | inr a ↦
          let e : cut_link n t ≡ t = cond-false (ltb n t) 0 t (le-ltb n t a) in
          subst (Linked held (versions ys) v) (sym e) (elim (cases_eq t 0) [
            | inl z ↦ when_of_true (eqb t 0) (IsLast (versions ys) v) (IsLink held (versions ys) v t) (eq-eqb t 0 z) (last_after (inl z))
            | inr nz ↦ when_of_false (eqb t 0) (IsLast (versions ys) v) (IsLink held (versions ys) v t) (ne_eqb t 0 nz) (link_after nz a)
          ])
    ]

  -- After the register.
  module _ (last_birth : ℕ → ℕ) (pages'' : List Page) (ix'' : Index) (lasts : LastUpTo pages n last_birth) (w : Registers pages' (next_register ix (held_left ix left)) pages'')
      (r : Restarted blocks per pages ix n left last_birth pages'' ix'') where
    abbrev zs : List Saying
    zs = sayings pages''

    abbrev next : Register
    next = next_register ix (held_left ix left)

    old' : (x : Saying) → In x ys → birth_of x ≤ ix.clock
    old' = old blocks per pages ix n left o c pages' cut

    same_versions : versions zs ≡ versions ys
    same_versions = versions_are pages' next pages'' w ix.clock old' refl

    latest_is : latest zs ≡ next
    latest_is = latest_next pages' next pages'' w ix.clock old' refl

    else : (x : Saying) → In x zs → (x ≡ register next) ⊎ In x ys
    else = says_else pages' next pages'' w ix.clock old' refl

    told_xs : Told xs
    told_xs = (stored blocks per pages ix o).told

    told : Told zs
    told =
        record {
          dated = λ x i. elim (else x i) [ inl e ↦ let q = ap birth_of e in inr (omega arith) | inr j ↦ dated_less xs ys told_xs cut.kept.less x j ];
          once = λ x y i j e. elim (else x i) [
            | inl a ↦ elim (else y j) [ inl b ↦ a ∙ sym b | inr b ↦ let p = ap birth_of a in let q = old' y b in absurd (omega arith) ]
            | inr a ↦ elim (else y j) [ inl b ↦ let p = ap birth_of b in let q = old' x a in absurd (omega arith) | inr b ↦ once_less xs ys told_xs cut.kept.less x y a b e ]
          ];
          begun = subst (λ (g : Register). In (register g) zs) (sym latest_is) (says_register pages' next pages'' w ix.clock old' refl);
        }

    store : Stored blocks per pages''
    store =
        let first = stored blocks per pages ix o in
        record {
          told = told;
          none_bad = λ cause i. elim (else (bad cause) i) [
            | inl e ↦ let z : ◌≡◌ {A = ℕ} 0 1 = cc in omega arith
            | inr j ↦ elim (cut.kept.less (bad cause) j) [ inl e ↦ let z : ◌≡◌ {A = ℕ} 0 1 = cc in omega arith | inr k ↦ first.none_bad cause k ]
          ];
          limits = all_within pages'';
          lone = r.sound.lone;
          two_blocks = first.two_blocks;
          small = first.small;
          has_erased_block = block_erased per blocks ix''.spare.0 pages'' r.sound.spare_block r.sound.spare_erased;
          room = subst (λ (g : Reading). length g.versions ≤ capacity blocks per) (sym (cut_reads blocks per pages ix n left pages' pages'' o c cut w)) few;
        }

    from_ys : (v : Version) → In v (versions zs) → In v (versions ys)
    from_ys v i = subst (In v) same_versions i

    linked : (k : ℕ) (v : Version) → k < length pages'' → said (get_or pages'' k []) ≡ version v → Linked (held_by zs) (versions zs) v (get_or ix''.records k unused).link
    linked k v h e =
        let i = from_ys v (versions_in zs v (at_says pages'' (version v) k h e)) in
        let l = linked_after v i (link_in pages ix v.birth) (linked_in blocks per pages ix o v (before v i)) in
        let same-held : held_by zs ≡ held = ap (λ (g : Register). reverse g.held) latest_is ∙ left_reverse blocks per pages ix n left o c in
        subst (Linked (held_by zs) (versions zs) v) (sym (r.sound.links k v h e))
        (subst (λ z. Linked z (versions zs) v (cut_link n (link_in pages ix v.birth))) (sym same-held)
        (subst (λ z. Linked held z v (cut_link n (link_in pages ix v.birth))) (sym same_versions) l))

    abbrev None : ℕ → Type 0
    None s = (v : Version) → In v (versions zs) → v.sector ≡ s → ⊥

    mapped : (s : ℕ) → s < 2048 → Mapped pages'' s (get_or ix''.map s 0)
    mapped s h = let m = get_or ix''.map s 0 in elim (cases_eq (last_birth s) 0) [
      | inl z ↦
          when_of_false (ltb m (length pages'')) (HasLast pages'' s m) (None s) (le-ltb m (length pages'') (r.sound.unmapped s h z))
          (λ v i e. lasts.none s h z v (before v (from_ys v i)) e (cut.none_later v (from_ys v i)))
      | inr nz ↦
          let p : 0 < last_birth s = omega arith in
          let shows = r.sound.mapped s h p in
          let l = lasts.last s h p in
          let b = shows.born in
          let d = l.2 in
          when_of_true (ltb m (length pages'')) (HasLast pages'' s m) (None s) (lt-ltb m (length pages'') shows.inside)
          (record {
            last = shows.shown;
            stands = shows.says;
            of_sector = shows.of_sector;
            youngest = λ v i e.
                let q = l.1.none_younger v (before v (from_ys v i)) (e ∙ shows.of_sector) (cut.none_later v (from_ys v i)) in
                omega arith;
          })
    ]

    reopened : Opened blocks per pages'' ix''
    reopened =
        record {
          accepted = stored_is_accepted blocks per pages'' store;
          whole = r.sound.whole;
          tells = record {
            counted = r.sound.counted;
            agree = r.sound.agree;
            linked = linked;
            mapped = mapped;
            clock = r.clock ∙ sym (clock_next pages' next pages'' w ix.clock old' refl);
            newest = r.newest ∙ ap (λ (g : Register). g.birth) (sym latest_is);
            held = r.held ∙ ap (λ (g : Register). g.held) (sym latest_is);
            label = r.label ∙ ap (λ (g : Register). g.label) (sym latest_is);
            spare_block = r.sound.spare_block;
            spare_erased = r.sound.spare_erased;
          };
        }

pub cut_has_room : CutHasRoom
cut_has_room blocks per pages ix n left pages' o c cut lone two = room blocks per pages ix n left pages' o c cut lone two

pub cut_reopens : CutReopens
cut_reopens blocks per pages ix n left last_birth pages' pages'' ix'' o c lasts cut w r = reopened blocks per pages ix n left pages' o c cut last_birth pages'' ix'' lasts w r
