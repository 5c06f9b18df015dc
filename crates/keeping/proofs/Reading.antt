-- The reading turns on what must stay alone.
use Rattle.std.proofs.Common.{◌≡◌, ℕ, ◌<◌, ◌≤◌, max, Bool, true, false, eqb, leb, ◌⊎◌, List, [], ◌∷◌, reverse, sym, refl, ap, ◌∙◌, inl, inr, arith}
use Rattle.std.proofs.lemmas.Bool.{eq-eqb, leb-true, leb-false, cond_both, cases_lt}
use Rattle.readings.specs.Versions.{Version, needed, keep}
use Rattle.readings.specs.Sorted.{In, sort, Apart, Enough}
use Rattle.readings.proofs.PageLaws.{needed_suffice, sort_some, born, born_in}
use Rattle.readings.proofs.Settle.{needed_ext, youngest_kept}
use Rattle.readings.proofs.Sorted.{in_sort}
use Rattle.readings.proofs.Meaning.{needed_means}
use Rattle.readings.specs.Sayings.{Register, Saying, nothing, version, register, bad}
use Rattle.readings.specs.Reading.{birth_of, versions, clock_of, younger, latest, held_by, reading, must, Told, Less, Holds, MustSuffices, MustStays}
use Rattle.keeping.specs.Stored.{ClockStays}

-- the versions said
pub in_versions : (xs : List Saying) (v : Version) → In v (versions xs) → In (version v) xs
unfolding versions
in_versions [] v h = h
in_versions (nothing ∷ xs) v h = inr (in_versions xs v h)
in_versions (version w ∷ xs) v (inl e) = inl (ap version e)
in_versions (version w ∷ xs) v (inr h) = inr (in_versions xs v h)
in_versions (register r ∷ xs) v h = inr (in_versions xs v h)
in_versions (bad c ∷ xs) v h = inr (in_versions xs v h)

same_version : (v w : Version) → version v ≡ version w → v ≡ w
same_version v w e = cc

pub versions_in : (xs : List Saying) (v : Version) → In (version v) xs → In v (versions xs)
unfolding versions
versions_in [] v h = h
versions_in (nothing ∷ xs) v (inl e) = let z : ◌≡◌ {A = ℕ} 0 1 = cc in absurd (omega arith)
versions_in (nothing ∷ xs) v (inr h) = versions_in xs v h
versions_in (version w ∷ xs) v (inl e) = inl (same_version v w e)
versions_in (version w ∷ xs) v (inr h) = inr (versions_in xs v h)
versions_in (register r ∷ xs) v (inl e) = let z : ◌≡◌ {A = ℕ} 0 1 = cc in absurd (omega arith)
versions_in (register r ∷ xs) v (inr h) = versions_in xs v h
versions_in (bad c ∷ xs) v (inl e) = let z : ◌≡◌ {A = ℕ} 0 1 = cc in absurd (omega arith)
versions_in (bad c ∷ xs) v (inr h) = versions_in xs v h

-- the clock
pub clock_above : (xs : List Saying) (x : Saying) → In x xs → birth_of x ≤ clock_of xs
unfolding clock_of
clock_above [] x h = absurd h
clock_above (y ∷ ys) x (inl e) = let q = ap birth_of e in omega arith
clock_above (y ∷ ys) x (inr h) = let ih = clock_above ys x h in omega arith

pub clock_below : (xs : List Saying) (n : ℕ) → ((x : Saying) → In x xs → birth_of x ≤ n) → clock_of xs ≤ n
unfolding clock_of
clock_below [] n h = omega arith
clock_below (y ∷ ys) n h = let a = h y (inl refl) in let ih = clock_below ys n (λ x i. h x (inr i)) in omega arith

-- the youngest register
pub latest_above : (xs : List Saying) (r : Register) → In (register r) xs → r.birth ≤ (latest xs).birth
unfolding latest
latest_above [] r h = absurd h
latest_above (x ∷ xs) r h = go x h (latest_above xs r)
  where
    go : (x : Saying) → In (register r) (x ∷ xs) → (In (register r) xs → r.birth ≤ (latest xs).birth) → r.birth ≤ (younger x (latest xs)).birth
    go nothing (inl e) ih = let z : ◌≡◌ {A = ℕ} 0 1 = cc in absurd (omega arith)
    go nothing (inr i) ih = ih i
    go (version w) (inl e) ih = let z : ◌≡◌ {A = ℕ} 0 1 = cc in absurd (omega arith)
    go (version w) (inr i) ih = ih i
    go (register s) (inl e) ih = let q : r.birth ≡ s.birth = ap birth_of e in
        cond_both (leb (latest xs).birth s.birth) s (latest xs) (λ (z : Register). r.birth ≤ z.birth) (λ t. omega arith) (λ t. let u = leb-false (latest xs).birth s.birth t in omega arith)
    go (register s) (inr i) ih = let q = ih i in
        cond_both (leb (latest xs).birth s.birth) s (latest xs) (λ (z : Register). r.birth ≤ z.birth) (λ t. let u = leb-true (latest xs).birth s.birth t in omega arith) (λ t. q)
    go (bad c) (inl e) ih = let z : ◌≡◌ {A = ℕ} 0 1 = cc in absurd (omega arith)
    go (bad c) (inr i) ih = ih i

latest_or : (xs : List Saying) → In (register (latest xs)) xs ⊎ ((latest xs).birth ≡ 0)
unfolding latest
latest_or [] = inr refl
latest_or (x ∷ xs) = go x (latest_or xs)
  where
    go : (x : Saying) → In (register (latest xs)) xs ⊎ ((latest xs).birth ≡ 0) → In (register (younger x (latest xs))) (x ∷ xs) ⊎ ((younger x (latest xs)).birth ≡ 0)
    go nothing (inl i) = inl (inr i)
    go nothing (inr e) = inr e
    go (version w) (inl i) = inl (inr i)
    go (version w) (inr e) = inr e
    go (register s) (inl i) =
        cond_both (leb (latest xs).birth s.birth) s (latest xs) (λ (z : Register). In (register z) (register s ∷ xs) ⊎ (z.birth ≡ 0)) (λ t. inl (inl refl)) (λ t. inl (inr i))
    go (register s) (inr e) =
        cond_both (leb (latest xs).birth s.birth) s (latest xs) (λ (z : Register). In (register z) (register s ∷ xs) ⊎ (z.birth ≡ 0)) (λ t. inl (inl refl)) (λ t. inr e)
    go (bad c) (inl i) = inl (inr i)
    go (bad c) (inr e) = inr e

pub latest_in : (xs : List Saying) (r : Register) → In (register r) xs → In (register (latest xs)) xs
unfolding latest
latest_in [] r h = absurd h
latest_in (x ∷ xs) r h = go x h (latest_in xs r) (latest_or xs)
  where
    go : (x : Saying) → In (register r) (x ∷ xs) → (In (register r) xs → In (register (latest xs)) xs) → In (register (latest xs)) xs ⊎ ((latest xs).birth ≡ 0) → In (register (younger x (latest xs))) (x ∷ xs)
    go nothing (inl e) ih o = let z : ◌≡◌ {A = ℕ} 0 1 = cc in absurd (omega arith)
    go nothing (inr i) ih o = inr (ih i)
    go (version w) (inl e) ih o = let z : ◌≡◌ {A = ℕ} 0 1 = cc in absurd (omega arith)
    go (version w) (inr i) ih o = inr (ih i)
    go (register s) h ih (inl i) =
        cond_both (leb (latest xs).birth s.birth) s (latest xs) (λ (z : Register). In (register z) (register s ∷ xs)) (λ t. inl refl) (λ t. inr i)
    go (register s) h ih (inr e) =
        cond_both (leb (latest xs).birth s.birth) s (latest xs) (λ (z : Register). In (register z) (register s ∷ xs)) (λ t. inl refl) (λ t. let u = leb-false (latest xs).birth s.birth t in absurd (omega arith))
    go (bad c) (inl e) ih o = let z : ◌≡◌ {A = ℕ} 0 1 = cc in absurd (omega arith)
    go (bad c) (inr i) ih o = inr (ih i)

-- a saying of the greatest birth
pub clock_at : (xs : List Saying) → ((x : Saying) × In x xs × (birth_of x ≡ clock_of xs)) ⊎ (clock_of xs ≡ 0)
unfolding clock_of
clock_at [] = inr refl
clock_at (x ∷ xs) = go (clock_at xs) (leb (clock_of xs) (birth_of x)) refl
  where
    go : ((y : Saying) × In y xs × (birth_of y ≡ clock_of xs)) ⊎ (clock_of xs ≡ 0) → (b : Bool) → leb (clock_of xs) (birth_of x) ≡ b →
        ((y : Saying) × In y (x ∷ xs) × (birth_of y ≡ max (birth_of x) (clock_of xs))) ⊎ (max (birth_of x) (clock_of xs) ≡ 0)
    go o true e = let q = leb-true (clock_of xs) (birth_of x) e in inl (x, inl refl, omega arith)
    go (inl r) false e = let q = leb-false (clock_of xs) (birth_of x) e in let k : birth_of r.0 ≡ clock_of xs = r.2 in inl (r.0, inr r.1, omega arith)
    go (inr k) false e = let q = leb-false (clock_of xs) (birth_of x) e in absurd (omega arith)

-- What is needed among all is what is needed among enough of them.
pub needs_left : (held : List ℕ) (vs some_of : List Version) → Apart vs → Enough held vs some_of → (v : Version) → needed held (sort some_of) v ≡ needed held (sort vs) v
needs_left held vs some_of apart enough v =
    ap (λ z. needed held z v) (sort_some vs some_of apart enough.0) ∙ needed_ext held (keep (born some_of) (sort vs)) (sort vs)
    (youngest_kept held (born some_of) (sort vs) (λ w i n. born_in some_of w (enough.1 w (in_sort vs w i) n))) v

-- Pages that say nothing new.
pub version_less : (xs ys : List Saying) → Less xs ys → (v : Version) → In v (versions ys) → In v (versions xs)
version_less xs ys less v i = elim (less (version v) (in_versions ys v i)) [ inl e ↦ let z : ◌≡◌ {A = ℕ} 0 1 = cc in absurd (omega arith) | inr j ↦ versions_in xs v j ]

module _ (xs ys : List Saying) (told : Told xs) (less : Less xs ys) where
  pub dated_less : (x : Saying) → In x ys → (x ≡ nothing) ⊎ (0 < birth_of x)
  dated_less x i = elim (less x i) [ inl e ↦ inl e | inr j ↦ told.dated x j ]

  zero_says : (x : Saying) → In x xs → birth_of x ≡ 0 → x ≡ nothing
  zero_says x i e = elim (told.dated x i) [ inl f ↦ f | inr l ↦ absurd (omega arith) ]

  pub once_less : (x y : Saying) → In x ys → In y ys → birth_of x ≡ birth_of y → x ≡ y
  once_less x y i j e = elim (less x i) [
    | inl p ↦ elim (less y j) [ inl q ↦ p ∙ sym q | inr q ↦ p ∙ sym (zero_says y q (sym e ∙ ap birth_of p)) ]
    | inr p ↦ elim (less y j) [ inl q ↦ zero_says x p (e ∙ ap birth_of q) ∙ sym q | inr q ↦ told.once x y p q e ]
  ]

module _ (xs : List Saying) (told : Told xs) where
  pub apart_told : Apart (versions xs)
  apart_told v w i j e = same_version v w (told.once (version v) (version w) (in_versions xs v i) (in_versions xs w j) e)

  pub latest_born : 0 < (latest xs).birth
  latest_born = elim (told.dated (register (latest xs)) told.begun) [ inl e ↦ let z : ◌≡◌ {A = ℕ} 0 1 = cc in absurd (omega arith) | inr h ↦ h ]

  greatest_stays : (x : Saying) → In x xs → birth_of x ≡ clock_of xs → 0 < birth_of x → must xs x ≡ true
  unfolding must
  greatest_stays nothing i e h = absurd (omega arith)
  greatest_stays (bad c) i e h = absurd (omega arith)
  greatest_stays (register r) i e h =
      let a = latest_above xs r i in
      let b : (latest xs).birth ≤ clock_of xs = clock_above xs (register (latest xs)) told.begun in
      eq-eqb r.birth (latest xs).birth (omega arith)
  greatest_stays (version v) i e h =
      let j = versions_in xs v i in
      (needed_means (held_by xs) (versions xs) v apart_told j).1
      (inl (record { stands = j; of_sector = refl; in_time = tt; none_younger = λ w k _ _. let q : w.birth ≤ clock_of xs = clock_above xs (version w) (in_versions xs w k) in omega arith }))

pub clock_stays : ClockStays
clock_stays xs told = greatest_stays xs told

module _ (xs ys : List Saying) (told : Told xs) (less : Less xs ys) (holds : Holds xs ys) where
  apart : Apart (versions xs)
  apart = apart_told xs told

  has_latest : In (register (latest xs)) ys
  unfolding must
  has_latest = holds (register (latest xs)) told.begun (eq-eqb (latest xs).birth (latest xs).birth refl)

  within : (r : Register) → In (register r) ys → In (register r) xs
  within r i = elim (less (register r) i) [ inl e ↦ let z : ◌≡◌ {A = ℕ} 0 1 = cc in absurd (omega arith) | inr j ↦ j ]

  pub same_latest : latest ys ≡ latest xs
  same_latest =
      let i : In (register (latest ys)) xs = within (latest ys) (latest_in ys (latest xs) has_latest) in
      let a : (latest ys).birth ≤ (latest xs).birth = latest_above xs (latest ys) i in
      let b : (latest xs).birth ≤ (latest ys).birth = latest_above ys (latest xs) has_latest in
      let e : (latest ys).birth ≡ (latest xs).birth = omega arith in
      let f : register (latest ys) ≡ register (latest xs) = told.once (register (latest ys)) (register (latest xs)) i told.begun e in cc

  pub same_clock : clock_of ys ≡ clock_of xs
  same_clock =
      let a : clock_of ys ≤ clock_of xs = clock_below ys (clock_of xs) (λ x i. elim (less x i) [ inl e ↦ let q = ap birth_of e in omega arith | inr j ↦ clock_above xs x j ]) in
      let b : clock_of xs ≤ clock_of ys = elim (clock_at xs) [
        | inl r ↦ elim (cases_lt 0 (clock_of xs)) [
          | inl h ↦
              let e = r.2 in
              let q = clock_above ys r.0 (holds r.0 r.1 (clock_stays xs told r.0 r.1 r.2 (omega arith))) in
              omega arith
          | inr h ↦ omega arith
        ]
        | inr e ↦ omega arith
      ] in
      omega arith

  pub enough : Enough (held_by xs) (versions xs) (versions ys)
  unfolding must
  enough = (version_less xs ys less, λ v i t. versions_in ys v (holds (version v) (in_versions xs v i) t))

  told_still : Told ys
  told_still = record { dated = dated_less xs ys told less; once = once_less xs ys told less; begun = latest_in ys (latest xs) has_latest }

  must_same : (x : Saying) → must ys x ≡ must xs x
  unfolding must
  must_same nothing = refl
  must_same (version v) = ap (λ (r : Register). needed (reverse r.held) (sort (versions ys)) v) same_latest ∙ needs_left (held_by xs) (versions xs) (versions ys) apart enough v
  must_same (register r) = ap (λ (q : Register). eqb r.birth q.birth) same_latest
  must_same (bad c) = refl

  pub stays_told : Told ys × ((x : Saying) → must ys x ≡ must xs x)
  stays_told = (told_still, must_same)

  pub suffices : reading ys ≡ reading xs
  unfolding reading
  suffices = rw (same_latest, same_clock) (needed_suffice (latest xs).label (clock_of xs) (held_by xs) (versions xs) (versions ys) apart enough)

pub must_suffices : MustSuffices
must_suffices xs ys told less holds = suffices xs ys told less holds

pub must_stays : MustStays
must_stays xs ys told less holds = stays_told xs ys told less holds
