-- How many pages must stay.
use Rattle.std.proofs.Common.{◌≡◌, ℕ, suc, ◌+◌, ◌-◌, ◌*◌, ◌≤◌, Bool, true, false, eqb, List, [], ◌∷◌, length, sym, refl, ap, ◌∙◌, inl, inr, mul-le-mul_right, one-mul, arith}
use Rattle.std.proofs.lemmas.Bool.{eqb-true, eq-eqb, both_ways}
use Rattle.readings.specs.Versions.{Version, put, keep, needed, settle}
use Rattle.readings.specs.Sorted.{In, sort, reading_of}
use Rattle.readings.specs.Meaning.{Once}
use Rattle.readings.specs.Sayings.{Register, Saying, nothing, version, register, bad, sayings}
use Rattle.readings.specs.Reading.{birth_of, versions, latest, held_by, reading, stays, must, Told}
use Rattle.readings.specs.Mount.{births, distinct}
use Rattle.readings.proofs.Lists.{keep_ext, all_in}
use Rattle.readings.proofs.Meaning.{words_mean}
use Rattle.moving.specs.Sound.{staying}
use Rattle.keeping.specs.Opened.{link_in, no_limit, MustCount, ThereIsRoom}
use Rattle.keeping.proofs.Accepted.{accepted_is_stored}
use Rattle.keeping.proofs.Births.{distinct_first, distinct_rest, lone_distinct}
use Rattle.keeping.proofs.Opened.{staying_is_must}
use Rattle.keeping.proofs.Reading.{in_versions}

pub once_versions : (xs : List Saying) → distinct (births xs) ≡ true → Once (versions xs)
unfolding versions
once_versions [] d = tt
once_versions (nothing ∷ xs) d = once_versions xs (distinct_rest nothing xs d)
once_versions (bad c ∷ xs) d = once_versions xs (distinct_rest (bad c) xs d)
once_versions (register r ∷ xs) d = once_versions xs (distinct_rest (register r) xs d)
once_versions (version v ∷ xs) d = (
  λ w i e. distinct_first (version v) xs d refl (version w) (in_versions xs w i) refl e,
  once_versions xs (distinct_rest (version v) xs d),
)

module _ (p : Version → Bool) (b : ℕ) where
  -- No register of the birth, or one.
  abbrev None : List Saying → Type 0
  None xs = (r : Register) → In (register r) xs → r.birth ≡ b → ⊥

  count_none : (xs : List Saying) → None xs → length (keep (stays p b) xs) ≡ length (keep p (versions xs))
  unfolding versions keep
  count_none [] n = refl
  count_none (nothing ∷ xs) n = count_none xs (λ r i. n r (inr i))
  count_none (bad c ∷ xs) n = count_none xs (λ r i. n r (inr i))
  count_none (version v ∷ xs) n = go (p v) (count_none xs (λ r i. n r (inr i)))
    where
      go : (t : Bool) → length (keep (stays p b) xs) ≡ length (keep p (versions xs)) → length (put t (version v) (keep (stays p b) xs)) ≡ length (put t v (keep p (versions xs)))
      go true ih = ap suc ih
      go false ih = ih
  count_none (register r ∷ xs) n = go (eqb r.birth b) refl (count_none xs (λ g i. n g (inr i)))
    where
      go : (t : Bool) → eqb r.birth b ≡ t → length (keep (stays p b) xs) ≡ length (keep p (versions xs)) → length (put t (register r) (keep (stays p b) xs)) ≡ length (keep p (versions xs))
      go true e ih = absurd (n r (inl refl) (eqb-true r.birth b e))
      go false e ih = ih

  abbrev One : List Saying → Type 0
  One xs = (r : Register) × In (register r) xs × (r.birth ≡ b)

  one_rest : (x : Saying) (xs : List Saying) → One (x ∷ xs) → ((r : Register) → r.birth ≡ b → x ≡ register r → ⊥) → One xs
  one_rest x xs o n = elim o.1 [ inl e ↦ absurd (n o.0 o.2 (sym e)) | inr i ↦ (o.0, i, o.2) ]

  pub count_one : (xs : List Saying) → distinct (births xs) ≡ true → One xs → length (keep (stays p b) xs) ≡ length (keep p (versions xs)) + 1
  unfolding versions keep
  count_one [] d o = absurd o.1
  count_one (nothing ∷ xs) d o = count_one xs (distinct_rest nothing xs d) (one_rest nothing xs o (λ r _ e. let z : ◌≡◌ {A = ℕ} 0 1 = cc in omega arith))
  count_one (bad c ∷ xs) d o = count_one xs (distinct_rest (bad c) xs d) (one_rest (bad c) xs o (λ r _ e. let z : ◌≡◌ {A = ℕ} 0 1 = cc in omega arith))
  count_one (version v ∷ xs) d o = go (p v) (count_one xs (distinct_rest (version v) xs d) (one_rest (version v) xs o (λ r _ e. let z : ◌≡◌ {A = ℕ} 0 1 = cc in omega arith)))
    where
      go : (t : Bool) → length (keep (stays p b) xs) ≡ length (keep p (versions xs)) + 1 → length (put t (version v) (keep (stays p b) xs)) ≡ length (put t v (keep p (versions xs))) + 1
      go true ih = omega arith
      go false ih = ih
  count_one (register r ∷ xs) d o = go (eqb r.birth b) refl (count_one xs (distinct_rest (register r) xs d))
    where
      go : (t : Bool) → eqb r.birth b ≡ t → (One xs → length (keep (stays p b) xs) ≡ length (keep p (versions xs)) + 1) → length (put t (register r) (keep (stays p b) xs)) ≡ length (keep p (versions xs)) + 1
      go true e ih =
          let q = eqb-true r.birth b e in
          let n = count_none xs (λ g i f. distinct_first (register r) xs d refl (register g) i refl (f ∙ sym q)) in
          omega arith
      go false e ih =
          ih (one_rest (register r) xs o (λ g f h.
          let k : r.birth ≡ b = ap birth_of h ∙ f in
          both_ways (eqb r.birth b) e (eq-eqb r.birth b k)))

pub count_must : (xs : List Saying) → Told xs → distinct (births xs) ≡ true → length (keep (must xs) xs) ≡ length (reading xs).versions + 1
unfolding must reading reading_of settle
count_must xs told d =
    let p = needed (held_by xs) (sort (versions xs)) in
    count_one p (latest xs).birth xs d (latest xs, told.begun, refl)
    ∙ ap (λ n. n + 1) (sym (words_mean.counted_in_place (held_by xs) (versions xs) (once_versions xs d)))

pub must_count : MustCount
must_count blocks per pages a = let s = accepted_is_stored blocks per pages a in count_must (sayings pages) s.told (lone_distinct pages s.lone)

pub there_is_room : ThereIsRoom
there_is_room blocks per pages ix o h =
    let s = accepted_is_stored blocks per pages o.accepted in
    let xs = sayings pages in
    let e : keep (staying ix (link_in pages ix) no_limit) xs ≡ keep (must xs) xs =
    keep_ext (staying ix (link_in pages ix) no_limit) (must xs) xs (all_in (λ x. staying ix (link_in pages ix) no_limit x ≡ must xs x) xs (staying_is_must blocks per pages ix o)) in
    let n = ap length e in
    let c = must_count blocks per pages o.accepted in
    let r = s.room in
    let t = s.two_blocks in
    let m : 1 * per ≤ (blocks - 1) * per = mul-le-mul_right {m = 1} {n = blocks - 1} per (omega arith) in
    let k = one-mul per in
    omega arith
