-- What an open store has in memory gives what moving pages needs.
use Rattle.std.proofs.Common.{◌≡◌, ℕ, zero, suc, ◌<◌, ◌≤◌, true, false, ◌&&◌, ◌||◌, eqb, ltb, leb, ◌⊎◌, List, [], ◌∷◌, length, get_or, sym, refl, ap, ◌∙◌, subst, inl, inr, arith}
use Rattle.std.proofs.lemmas.Bool.Decides.{when_true, when_false}
use Rattle.std.proofs.lemmas.Bool.{cases_Bool, cases_eq, cases_lt, eqb-true, eq-eqb, ne_eqb, le-leb, leb-true, lt-ltb, le-ltb, and_parts, and_from, or_cases, or_left, or_right, cond-true, cond-false, both_ways}
use Rattle.chip.specs.Pages.{Page}
use Rattle.limits.specs.Numbers.{rising}
use Rattle.limits.specs.Values.{held_of}
use Rattle.readings.specs.Versions.{Version, keep, any, has, needed}
use Rattle.readings.specs.Sorted.{In, sort}
use Rattle.readings.specs.Sayings.{Saying, nothing, version, register, bad, said, sayings}
use Rattle.readings.specs.Reading.{birth_of, versions, latest, held_by, must}
use Rattle.readings.specs.Mount.{is_nothing}
use Rattle.readings.specs.Links.{IsLast, IsLink, Linked, stays_by, Among, Cuts}
use Rattle.readings.specs.Changes.{last_clock}
use Rattle.readings.proofs.Lists.{keep_id, all_in}
use Rattle.tables.specs.Records.{unused}
use Rattle.tables.specs.Tells.{HasLast, Tells}
use Rattle.tables.specs.declared.index.Index.{Index}
use Rattle.moving.specs.Sound.{Sound, LastStay, staying}
use Rattle.keeping.specs.Stored.{Lone, Stored, VersionLimits, RegisterLimits}
use Rattle.keeping.specs.Opened.{Opened, is_born, place_of, link_in, last_birth_in, no_limit, OpenedIsSound, LastStays, StayingIsMust}
use Rattle.keeping.proofs.Accepted.{accepted_is_stored}
use Rattle.keeping.proofs.Lists.{says_at, at_says, any_reverse, needed_reverse}
use Rattle.keeping.proofs.Links.{stays_is_need}
use Rattle.keeping.proofs.Reading.{in_versions, versions_in, apart_told}

-- The page of a birth.
born_is : (b : ℕ) (x : Saying) → is_born b x ≡ true → (is_nothing x ≡ false) × (birth_of x ≡ b)
born_is b nothing h = absurd (both_ways false refl h)
born_is b (version v) h = (refl, eqb-true v.birth b h)
born_is b (register r) h = absurd (both_ways false refl h)
born_is b (bad c) h = absurd (both_ways false refl h)

pub place_at : (pages : List Page) → Lone pages → (k : ℕ) (v : Version) → k < length pages → said (get_or pages k []) ≡ version v → place_of v.birth (sayings pages) ≡ k
unfolding place_of
place_at [] lone k v h e = absurd (omega arith)
place_at (p ∷ ps) lone zero v h e =
    cond-true (is_born v.birth (said p)) 0 (suc (place_of v.birth (sayings ps))) (ap (is_born v.birth) e ∙ eq-eqb v.birth v.birth refl)
place_at (p ∷ ps) lone (suc k) v h e =
    cond-false (is_born v.birth (said p)) 0 (suc (place_of v.birth (sayings ps))) other
    ∙ ap suc (place_at ps (λ i j a b m n f. let z : suc i ≡ suc j = lone (suc i) (suc j) (omega arith) (omega arith) m n f in omega arith) k v (omega arith) e)
  where
    other : is_born v.birth (said p) ≡ false
    other = elim (cases_Bool (is_born v.birth (said p))) [
      | inr f ↦ f
      | inl t ↦
          let r = born_is v.birth (said p) t in
          let z : 0 ≡ suc k = lone 0 (suc k) (omega arith) h r.0 (ap is_nothing e) (r.1 ∙ sym (ap birth_of e)) in
          absurd (omega arith)
    ]

-- Held numbers are known.
pub rising_below : (low top : ℕ) (ns : List ℕ) (h : ℕ) → rising low top ns ≡ true → has h ns ≡ true → h ≤ top
rising_below low top [] h r i = let z : ◌≡◌ {A = ℕ} 0 1 = cc in absurd (omega arith)
rising_below low top (n ∷ ns) h r i =
    let a = and_parts (ltb low n) (leb n top && rising n top ns) r in
    let b = and_parts (leb n top) (rising n top ns) a.1 in
    elim (or_cases (eqb h n) (has h ns) i) [
      | inl e ↦ let q = eqb-true h n e in let u = leb-true n top b.0 in omega arith
      | inr j ↦ rising_below n top ns h b.1 j
    ]

-- What nothing replaced up to the limit stays.
pub stays_shown : (held : List ℕ) (limit b t : ℕ) → b ≤ limit → (t ≡ 0) ⊎ (limit < t) → stays_by held limit b t ≡ true
stays_shown held limit b t h o =
    and_from (leb b limit) (eqb t 0 || (ltb limit t || any (λ n. leb b n && ltb n t) held)) (le-leb b limit h) (go o)
  where
    go : (t ≡ 0) ⊎ (limit < t) → (eqb t 0 || (ltb limit t || any (λ n. leb b n && ltb n t) held)) ≡ true
    go (inl e) = or_left (eqb t 0) (ltb limit t || any (λ n. leb b n && ltb n t) held) (eq-eqb t 0 e)
    go (inr l) =
        or_right (eqb t 0) (ltb limit t || any (λ n. leb b n && ltb n t) held)
        (or_left (ltb limit t) (any (λ n. leb b n && ltb n t) held) (lt-ltb limit t l))

module _ (blocks per : ℕ) (pages : List Page) (ix : Index) (opened : Opened blocks per pages ix) where
  abbrev xs : List Saying
  xs = sayings pages

  abbrev vs : List Version
  vs = versions xs

  pub stored : Stored blocks per pages
  stored = accepted_is_stored blocks per pages opened.accepted

  memory : Tells blocks per pages ix
  memory = opened.tells

  pub link_at : (k : ℕ) (v : Version) → k < length pages → said (get_or pages k []) ≡ version v → (get_or ix.records k unused).link ≡ link_in pages ix v.birth
  link_at k v h e = ap (λ j. (get_or ix.records j unused).link) (sym (place_at pages stored.lone k v h e))

  pub linked_in : (v : Version) → In v vs → Linked (held_by xs) vs v (link_in pages ix v.birth)
  linked_in v i =
      let r = says_at pages (version v) (in_versions xs v i) in
      subst (Linked (held_by xs) vs v) (link_at r.0 v r.1 r.2) (memory.linked r.0 v r.1 r.2)

  module _ (s : ℕ) (h : s < 2048) where
    abbrev m : ℕ
    m = get_or ix.map s 0

    -- The page in the map, or none.
    module _ (inside : m < length pages) where
      pub has_last : HasLast pages s m
      has_last = when_true (HasLast pages s m) ((w : Version) → In w vs → w.sector ≡ s → ⊥) (lt-ltb m (length pages) inside) (memory.mapped s h)

      pub last_in : In has_last.last vs
      last_in = versions_in xs has_last.last (at_says pages (version has_last.last) m inside has_last.stands)

      pub last_birth_lem : last_birth_in pages ix s ≡ has_last.last.birth
      last_birth_lem = cond-true (ltb m (length pages)) (birth_of (said (get_or pages m []))) 0 (lt-ltb m (length pages) inside) ∙ ap birth_of has_last.stands

      pub last_born : VersionLimits has_last.last
      last_born = stored.limits (version has_last.last) (in_versions xs has_last.last last_in)

      pub last_link : link_in pages ix has_last.last.birth ≡ 0
      last_link = go (link_in pages ix has_last.last.birth) (linked_in has_last.last last_in)
        where
          go : (t : ℕ) → Linked (held_by xs) vs has_last.last t → t ≡ 0
          go t l = elim (cases_eq t 0) [
            | inl z ↦ z
            | inr nz ↦
                let link = when_false (IsLast vs has_last.last) (IsLink (held_by xs) vs has_last.last t) (ne_eqb t 0 nz) l in
                let r = link.replaced in
                let a = link.later in
                let b = r.3 in
                let c = has_last.youngest r.0 r.1 r.2 in
                absurd (omega arith)
          ]

    module _ (outside : length pages ≤ m) where
      pub no_last : (w : Version) → In w vs → w.sector ≡ s → ⊥
      no_last = when_false (HasLast pages s m) ((w : Version) → In w vs → w.sector ≡ s → ⊥) (le-ltb m (length pages) outside) (memory.mapped s h)

      pub unborn : last_birth_in pages ix s ≡ 0
      unborn = cond-false (ltb m (length pages)) (birth_of (said (get_or pages m []))) 0 (le-ltb m (length pages) outside)

    pub unborn_outside : last_birth_in pages ix s ≡ 0 → length pages ≤ m
    unborn_outside e = elim (cases_lt m (length pages)) [
      | inl i ↦ let a = last_birth_lem i in let b = (last_born i).first in absurd (omega arith)
      | inr o ↦ o
    ]

    pub born_inside : 0 < last_birth_in pages ix s → m < length pages
    born_inside p = elim (cases_lt m (length pages)) [
      | inl i ↦ i
      | inr o ↦ let a = unborn o in absurd (omega arith)
    ]

  sound : Sound blocks per pages ix (link_in pages ix) (last_birth_in pages ix)
  sound =
      let few = stored.small in
      let w = opened.whole in
      record {
        counted = memory.counted;
        fits = omega arith;
        whole = opened.whole;
        agree = memory.agree;
        links = link_at;
        lone = stored.lone;
        unmapped = unborn_outside;
        mapped = λ s h p.
            let i = born_inside s h p in
            record {
              inside = i;
              shown = (has_last s h i).last;
              says = (has_last s h i).stands;
              of_sector = (has_last s h i).of_sector;
              born = sym (last_birth_lem s h i);
            };
        spare_block = memory.spare_block;
        spare_erased = memory.spare_erased;
      }

  last_stay : LastStay ix (link_in pages ix) (last_birth_in pages ix) no_limit
  last_stay s h p =
      let i = born_inside s h p in
      let e = last_birth_lem s h i in
      let u = (last_born s h i).last in
      stays_shown (held_of ix.held) no_limit (last_birth_in pages ix s) (link_in pages ix (last_birth_in pages ix s)) (omega arith)
      (inl (ap (link_in pages ix) e ∙ last_link s h i))

  -- What stays by its record.
  pub latest_limits : RegisterLimits (latest xs)
  latest_limits = stored.limits (register (latest xs)) stored.told.begun

  pub has_held : (h : ℕ) → has h (held_of ix.held) ≡ true → has h (held_by xs) ≡ true
  has_held h i = any_reverse (eqb h) (latest xs).held ∙ ap (has h) (sym memory.held) ∙ i

  pub held_known : (h : ℕ) → has h (held_of ix.held) ≡ true → h ≤ (latest xs).birth
  held_known h i = rising_below 0 (latest xs).birth (latest xs).held h latest_limits.known (ap (has h) (sym memory.held) ∙ i)

  born_below : (v : Version) → In v vs → v.birth ≤ last_clock
  born_below v i = (stored.limits (version v) (in_versions xs v i)).last

  version_stays : (v : Version) → In v vs → stays_by (held_of ix.held) no_limit v.birth (link_in pages ix v.birth) ≡ needed (held_by xs) (sort vs) v
  version_stays v i =
      stays_is_need (held_by xs) (held_of ix.held) no_limit vs v (link_in pages ix v.birth) (apart_told xs stored.told) i (linked_in v i) among cuts
      ∙ ap (λ b. b && needed (held_of ix.held) (sort (keep (λ (w : Version). leb w.birth no_limit) vs)) v) (low v i)
      ∙ ap (λ z. needed (held_of ix.held) (sort z) v) (keep_id (λ (w : Version). leb w.birth no_limit) vs (all_in (λ (w : Version). leb w.birth no_limit ≡ true) vs low))
      ∙ ap (λ z. needed z (sort vs) v) memory.held ∙ sym (needed_reverse (latest xs).held (sort vs) v)
    where
      low : (w : Version) → In w vs → leb w.birth no_limit ≡ true
      low w j = let q = born_below w j in le-leb w.birth no_limit (omega arith)

      among : Among (held_of ix.held) no_limit (held_by xs)
      among h j = (has_held h j, let q = held_known h j in let u = latest_limits.last in omega arith)

      cuts : Cuts no_limit (held_by xs) vs
      cuts w j l = let q = born_below w j in absurd (omega arith)

  staying_must : (x : Saying) → In x xs → staying ix (link_in pages ix) no_limit x ≡ must xs x
  unfolding must
  staying_must nothing i = refl
  staying_must (version v) i = version_stays v (versions_in xs v i)
  staying_must (register r) i = ap (eqb r.birth) memory.newest
  staying_must (bad c) i = refl

pub opened_is_sound : OpenedIsSound
opened_is_sound blocks per pages ix o = sound blocks per pages ix o

pub last_stays : LastStays
last_stays blocks per pages ix o = last_stay blocks per pages ix o

pub staying_is_must : StayingIsMust
staying_is_must blocks per pages ix o = staying_must blocks per pages ix o
