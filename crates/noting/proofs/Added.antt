-- One page more: what all pages say then.
use Rattle.std.proofs.Common.{◌≡◌, ℕ, suc, ◌+◌, ◌*◌, ◌<◌, ◌≤◌, Bool, true, false, not, ◌||◌, eqb, ◌⊎◌, List, [], ◌∷◌, ◌++◌, reverse, length, get_or, set, sym, refl, ap, ◌∙◌, subst, inl, inr, arith, length-set}
use Rattle.std.proofs.lemmas.Bool.{cases_eq}
use Rattle.std.proofs.lemmas.List.{get_or-set_same, get_or-set_other, reverse-append, append-nil}
use Rattle.chip.specs.Pages.{Page, is_erased}
use Rattle.readings.specs.Versions.{Content, Version, put, keep, any, add}
use Rattle.readings.specs.Sorted.{In, reading_of, Apart, Born}
use Rattle.readings.specs.Sayings.{Register, Saying, nothing, version, register, said, sayings}
use Rattle.readings.specs.Reading.{birth_of, versions, clock_of, latest, held_by, reading, Told}
use Rattle.readings.specs.Mount.{is_nothing}
use Rattle.readings.specs.Changes.{frozen, released}
use Rattle.readings.proofs.PageLaws.{pages_read}
use Rattle.readings.proofs.Meaning.{words_mean}
use Rattle.noting.specs.Consistent.{Lone}
use Rattle.noting.specs.Holding.{without}
use Rattle.tables.proofs.Said.{says_at, at_says, in_versions, versions_in}
use Rattle.noting.proofs.Sayings.{same_version, same_register, version_says, register_says, not_version, clock_above, clock_below, latest_above, latest_in}

pub apart : (xs : List Saying) → Told xs → Apart (versions xs)
apart xs told v w i j e = same_version v w (told.once (version v) (version w) (in_versions xs v i) (in_versions xs w j) e)

pub born : (xs : List Saying) → Born (clock_of xs) (versions xs)
born xs v i = clock_above xs (version v) (in_versions xs v i)

-- A block that page k is outside of stays erased.
pub spare_stays : (per spare : ℕ) (pages : List Page) (k : ℕ) (x : Page) → (k < spare * per) ⊎ (spare * per + per ≤ k) → ((j : ℕ) → j < per → is_erased (get_or pages (spare * per + j) []) ≡ true) →
    (j : ℕ) → j < per → is_erased (get_or (set pages k x) (spare * per + j) []) ≡ true
spare_stays per spare pages k x outside erased j h =
    let ne : spare * per + j ≡ k → ⊥ = λ e. elim outside [ inl a ↦ omega arith | inr a ↦ omega arith ] in
    ap is_erased (get_or-set_other pages k (spare * per + j) x [] ne) ∙ erased j h

-- Page k, which said nothing, says y, born after all others.
module _ (pages : List Page) (k : ℕ) (x : Page) (y : Saying) (told : Told (sayings pages)) (inside : k < length pages) (empty : said (get_or pages k []) ≡ nothing)
    (is : said x ≡ y) (next : birth_of y ≡ suc (clock_of (sayings pages))) where
  abbrev xs : List Saying
  xs = sayings pages

  abbrev pages' : List Page
  pages' = set pages k x

  abbrev ys : List Saying
  ys = sayings pages'

  pub says_new : said (get_or pages' k []) ≡ y
  says_new = ap said (get_or-set_same pages k x [] inside) ∙ is

  pub says_old : (j : ℕ) → (j ≡ k → ⊥) → said (get_or pages' j []) ≡ said (get_or pages j [])
  says_old j ne = ap said (get_or-set_other pages k j x [] ne)

  -- A page that said something is not page k.
  pub other_page : (j : ℕ) → (said (get_or pages j []) ≡ nothing → ⊥) → j ≡ k → ⊥
  other_page j ne e = ne (ap (λ i. said (get_or pages i [])) e ∙ empty)

  pub new_in : In y ys
  new_in = at_says pages' y k (rw (length-set pages k x) inside) says_new

  pub old_in : (z : Saying) → In z xs → (z ≡ nothing → ⊥) → In z ys
  old_in z i ne =
      let r = says_at pages z i in
      let other = other_page r.0 (λ e. ne (sym r.2 ∙ e)) in
      at_says pages' z r.0 (rw (length-set pages k x) r.1) (says_old r.0 other ∙ r.2)

  pub in_old : (z : Saying) → In z ys → (z ≡ y) ⊎ In z xs
  in_old z i =
      let r = says_at pages' z i in
      elim (cases_eq r.0 k) [
        | inl e ↦ inl (sym r.2 ∙ ap (λ k. said (get_or pages' k [])) e ∙ says_new)
        | inr other ↦ inr (at_says pages z r.0 (rw (length-set pages k x) at r.1) (sym (says_old r.0 other) ∙ r.2))
      ]

  pub next_clock : clock_of ys ≡ suc (clock_of xs)
  next_clock =
      let a : clock_of ys ≤ suc (clock_of xs) = clock_below ys (suc (clock_of xs)) (λ z i. elim (in_old z i) [ inl e ↦ let q = ap birth_of e in omega arith | inr j ↦ let q = clock_above xs z j in omega arith ]) in
      let b : birth_of y ≤ clock_of ys = clock_above ys y new_in in
      omega arith

  pub told_next : In (register (latest ys)) ys → Told ys
  told_next begun =
      record {
        dated = λ z i. elim (in_old z i) [ inl e ↦ inr (let q = ap birth_of e in omega arith) | inr j ↦ told.dated z j ];
        once = λ z w i j e. elim (in_old z i) [
          | inl p ↦ elim (in_old w j) [ inl r ↦ p ∙ sym r | inr r ↦ let a = ap birth_of p in let b = clock_above xs w r in absurd (omega arith) ]
          | inr p ↦ elim (in_old w j) [ inl r ↦ let a = ap birth_of r in let b = clock_above xs z p in absurd (omega arith) | inr r ↦ told.once z w p r e ]
        ];
        begun = begun;
      }

  -- The old pages' births are below the new one.
  old_birth : (j : ℕ) → j < length pages → birth_of (said (get_or pages j [])) < birth_of y
  old_birth j h = let a = clock_above xs (said (get_or pages j [])) (at_says pages (said (get_or pages j [])) j h refl) in omega arith

  pub lone_next : Lone pages → Lone pages'
  lone_next lone i j hi hj si sj e =
      let hi' : i < length pages = rw (length-set pages k x) at hi in
      let hj' : j < length pages = rw (length-set pages k x) at hj in
      elim (cases_eq i k) [
        | inl p ↦ elim (cases_eq j k) [
          | inl r ↦ p ∙ sym r
          | inr r ↦
              let a : birth_of (said (get_or pages' i [])) ≡ birth_of y = ap (λ i. birth_of (said (get_or pages' i []))) p ∙ ap birth_of says_new in
              let b = ap birth_of (says_old j r) in
              let q = old_birth j hj' in
              absurd (omega arith)
        ]
        | inr p ↦ elim (cases_eq j k) [
          | inl r ↦
              let a : birth_of (said (get_or pages' j [])) ≡ birth_of y = ap (λ i. birth_of (said (get_or pages' i []))) r ∙ ap birth_of says_new in
              let b = ap birth_of (says_old i p) in
              let q = old_birth i hi' in
              absurd (omega arith)
          | inr r ↦ lone i j hi' hj' (sym (ap is_nothing (says_old i p)) ∙ si) (sym (ap is_nothing (says_old j r)) ∙ sj) (sym (ap birth_of (says_old i p)) ∙ e ∙ ap birth_of (says_old j r))
        ]
      ]

-- It says a version.
module _ (pages : List Page) (k : ℕ) (x : Page) (v : Version) (told : Told (sayings pages)) (inside : k < length pages) (empty : said (get_or pages k []) ≡ nothing)
    (is : said x ≡ version v) (next : v.birth ≡ suc (clock_of (sayings pages))) where
  abbrev vxs : List Saying
  vxs = sayings pages

  abbrev vys : List Saying
  vys = sayings (set pages k x)

  begun : In (register (latest vxs)) vys
  begun = old_in pages k x (version v) told inside empty is next (register (latest vxs)) told.begun (register_says (latest vxs))

  pub version_told : Told vys
  version_told = told_next pages k x (version v) told inside empty is next (latest_in vys (latest vxs) begun)

  pub version_latest : latest vys ≡ latest vxs
  version_latest =
      let i : In (register (latest vys)) vxs = elim (in_old pages k x (version v) told inside empty is next (register (latest vys)) (latest_in vys (latest vxs) begun)) [ inl e ↦ absurd (not_version (latest vys) v e) | inr j ↦ j ] in
      let a = latest_above vxs (latest vys) i in
      let b = latest_above vys (latest vxs) begun in
      same_register (latest vys) (latest vxs) (told.once (register (latest vys)) (register (latest vxs)) i told.begun (omega arith))

  pub version_in_lem : (w : Version) → In w (v ∷ versions vxs) → In w (versions vys)
  version_in_lem w (inl e) = versions_in vys w (subst (λ u. In (version u) vys) (sym e) (new_in pages k x (version v) told inside empty is next))
  version_in_lem w (inr j) = versions_in vys w (old_in pages k x (version v) told inside empty is next (version w) (in_versions vxs w j) (version_says w))

  pub in_version : (w : Version) → In w (versions vys) → In w (v ∷ versions vxs)
  in_version w i = elim (in_old pages k x (version v) told inside empty is next (version w) (in_versions vys w i)) [ inl e ↦ inl (same_version w v e) | inr j ↦ inr (versions_in vxs w j) ]

  -- Versions born by the clock, and the new one.
  pub apart_next : Apart (v ∷ versions vxs)
  apart_next a b i j e = apart vys version_told a b (version_in_lem a i) (version_in_lem b j) e

  pub version_reads : reading vys ≡ reading_of (latest vxs).label (suc (clock_of vxs)) (held_by vxs) (v ∷ versions vxs)
  unfolding reading
  version_reads =
      rw (version_latest, next_clock pages k x (version v) told inside empty is next)
      (words_mean.same_versions (latest vxs).label (suc (clock_of vxs)) (held_by vxs) (v ∷ versions vxs) (versions vys) apart_next version_in_lem in_version)

pub add_reads : (xs : List Saying) (s : ℕ) (c : Content) →
    reading_of (latest xs).label (suc (clock_of xs)) (held_by xs) (record { sector = s; birth = suc (clock_of xs); content = c } ∷ versions xs) ≡ add (reading xs) s c
unfolding reading reading_of
add_reads xs s c = pages_read.added (latest xs).label (clock_of xs) (held_by xs) (versions xs) s c (born xs)

-- It says a register.
module _ (pages : List Page) (k : ℕ) (x : Page) (g : Register) (told : Told (sayings pages)) (inside : k < length pages) (empty : said (get_or pages k []) ≡ nothing)
    (is : said x ≡ register g) (next : g.birth ≡ suc (clock_of (sayings pages))) where
  abbrev rxs : List Saying
  rxs = sayings pages

  abbrev rys : List Saying
  rys = sayings (set pages k x)

  begins : In (register (latest rys)) rys
  begins = latest_in rys g (new_in pages k x (register g) told inside empty is next)

  pub register_told : Told rys
  register_told = told_next pages k x (register g) told inside empty is next begins

  pub register_latest : latest rys ≡ g
  register_latest = elim (in_old pages k x (register g) told inside empty is next (register (latest rys)) begins) [
    | inl e ↦ same_register (latest rys) g e
    | inr j ↦
        let a = latest_above rys g (new_in pages k x (register g) told inside empty is next) in
        let b : (latest rys).birth ≤ clock_of rxs = clock_above rxs (register (latest rys)) j in
        absurd (omega arith)
  ]

  pub register_in : (w : Version) → In w (versions rxs) → In w (versions rys)
  register_in w i = versions_in rys w (old_in pages k x (register g) told inside empty is next (version w) (in_versions rxs w i) (version_says w))

  pub in_register : (w : Version) → In w (versions rys) → In w (versions rxs)
  in_register w i = elim (in_old pages k x (register g) told inside empty is next (version w) (in_versions rys w i)) [ inl e ↦ absurd (not_version g w (sym e)) | inr j ↦ versions_in rxs w j ]

  pub register_reads : reading rys ≡ reading_of g.label (suc (clock_of rxs)) (reverse g.held) (versions rxs)
  unfolding reading
  register_reads =
      rw (register_latest, next_clock pages k x (register g) told inside empty is next)
      (words_mean.same_versions g.label (suc (clock_of rxs)) (reverse g.held) (versions rxs) (versions rys) (apart rxs told) register_in in_register)

-- A freeze, and a release.
pub frozen_reads : (xs : List Saying) (held : List ℕ) → held ≡ (latest xs).held ++ (suc (clock_of xs) ∷ []) →
    reading_of (latest xs).label (suc (clock_of xs)) (reverse held) (versions xs) ≡ frozen (reading xs)
unfolding reading reading_of
frozen_reads xs held e =
    ap (λ hs. reading_of (latest xs).label (suc (clock_of xs)) hs (versions xs)) (ap reverse e ∙ reverse-append (latest xs).held (suc (clock_of xs) ∷ []))
    ∙ ap (λ vs. record { label = (latest xs).label; clock = suc (clock_of xs); held = suc (clock_of xs) ∷ held_by xs; versions = vs })
    (pages_read.frozen (latest xs).label (clock_of xs) (held_by xs) (versions xs) (born xs))

keep_append : {A : Type 0} (p : A → Bool) (xs ys : List A) → keep p (xs ++ ys) ≡ keep p xs ++ keep p ys
unfolding keep
keep_append p [] ys = refl
keep_append p (x ∷ xs) ys = go (p x) (keep_append p xs ys)
  where
    go : (b : Bool) → keep p (xs ++ ys) ≡ keep p xs ++ keep p ys → put b x (keep p (xs ++ ys)) ≡ put b x (keep p xs) ++ keep p ys
    go true e = ap (λ l. x ∷ l) e
    go false e = e

reverse_keep : {A : Type 0} (p : A → Bool) (xs : List A) → reverse (keep p xs) ≡ keep p (reverse xs)
unfolding keep
reverse_keep p [] = refl
reverse_keep p (x ∷ xs) =
    go (p x) refl (reverse_keep p xs) ∙ sym (keep_append p (reverse xs) (x ∷ [])) ∙ ap (keep p) (sym (reverse-append (x ∷ []) xs))
  where
    go : (b : Bool) → p x ≡ b → reverse (keep p xs) ≡ keep p (reverse xs) → reverse (put (p x) x (keep p xs)) ≡ keep p (reverse xs) ++ put (p x) x []
    go true t e = rw t (reverse-append (x ∷ []) (keep p xs) ∙ ap (λ l. l ++ (x ∷ [])) e)
    go false t e = rw t (e ∙ sym (append-nil (keep p (reverse xs))))

pub released_reads : (xs : List Saying) (n : ℕ) (held : List ℕ) → held ≡ without n (latest xs).held →
    reading_of (latest xs).label (suc (clock_of xs)) (reverse held) (versions xs) ≡ released n (reading xs)
unfolding reading reading_of
released_reads xs n held e =
    ap (λ hs. reading_of (latest xs).label (suc (clock_of xs)) hs (versions xs)) (ap reverse e ∙ reverse_keep (λ m. not (eqb m n)) (latest xs).held)
    ∙ pages_read.released (latest xs).label (clock_of xs) (held_by xs) (versions xs) (λ m. not (eqb m n))

-- A test of some number of a list does not turn on the order.
pub any_append : (p : ℕ → Bool) (xs ys : List ℕ) → any p (xs ++ ys) ≡ (any p xs || any p ys)
any_append p [] ys = refl
any_append p (x ∷ xs) ys = let ih = any_append p xs ys in grind arith
