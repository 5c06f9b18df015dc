-- Need is a test of births and links, and is counted by records.
use Rattle.std.proofs.Common.{◌≡◌, ℕ, suc, ◌+◌, ◌<◌, ◌≤◌, Bool, true, false, cond, ◌&&◌, ◌||◌, eqb, ltb, leb, ◌⊎◌, List, [], ◌∷◌, reverse, length, get_or, take, MatchBool, sym, refl, ap, ◌∙◌, inl, inr, ⊎_elim, arith}
use Rattle.std.proofs.lemmas.Bool.{leb-true, ltb-true, le-leb, lt-ltb, and_parts, and_from, cases_lt}
use Rattle.std.proofs.lemmas.List.{get_or-map, get_or-take, length-map, length-take-le}
use Rattle.std.proofs.lemmas.List.Sorted.{IsPermutation-reverse, list_any-IsPermutation}
use Rattle.std.proofs.lemmas.List.Sums.{sum_by-cons}
use Rattle.chip.specs.Pages.{Page}
use Rattle.readings.specs.Versions.{Content, bytes, deleted, Version, now, upto, put, keep, any, has, needed}
use Rattle.readings.specs.Sorted.{In, sort, Apart}
use Rattle.readings.specs.Sayings.{Saying, nothing, version, register, bad, said, sayings}
use Rattle.readings.specs.Reading.{versions}
use Rattle.readings.specs.Meaning.{IsYoungest}
use Rattle.readings.specs.Links.{IsLast, IsLink, Linked}
use Rattle.readings.proofs.Settle.{has_any, any_has}
use Rattle.readings.proofs.Meaning.{words_mean}
use Rattle.tables.specs.declared.types.Kind.{Kind}
use Rattle.tables.specs.declared.types.Record.{Record}
use Rattle.tables.specs.Records.{unused, kind_of, is_version, held_between, needed_by, is_needed, needed_count, Agrees}
use Rattle.tables.proofs.Said.{at_says, versions_in}

-- The order of held numbers does not matter.
pub any_reverse : (p : ℕ → Bool) (ns : List ℕ) → any p (reverse ns) ≡ any p ns
any_reverse p ns = sym (list_any-IsPermutation p ns (reverse ns) (IsPermutation-reverse ns))

pub needed_reverse : (held : List ℕ) (birth link : ℕ) → needed_by (reverse held) birth link ≡ needed_by held birth link
needed_reverse held birth link = ap (λ b. eqb link 0 || b) (any_reverse (λ h. leb birth h && ltb h link) held)

-- Need, by a version's birth and its link.
module _ (held : List ℕ) (vs : List Version) (v : Version) (apart : Apart vs) (stands : In v vs) where
  abbrev Needs : Type 0
  Needs = IsYoungest now v.sector vs v ⊎ ((h : ℕ) × (has h held ≡ true) × IsYoungest (upto h) v.sector vs v)

  need_last : IsLast vs v → needed held (sort vs) v ≡ true
  need_last last = (words_mean.needed_means held vs v apart stands).1 (inl (record { stands = stands; of_sector = refl; in_time = tt; none_younger = λ w j e t. last w j e }))

  same_bool : (a b : Bool) → (a ≡ true → b ≡ true) → (b ≡ true → a ≡ true) → a ≡ b
  same_bool a b f g = grind arith

  module _ (t : ℕ) (l : IsLink held vs v t) where
    to_test : Needs → held_between held v.birth t ≡ true
    to_test (inl y) =
        let r = l.replaced in
        let q = y.none_younger r.0 r.1 r.2 tt in
        let later = l.later in
        let above = r.3 in
        absurd (omega arith)
    to_test (inr y) =
        let h = y.0 in
        any_has (λ n. leb v.birth n && ltb n t) held h y.1
        (and_from (leb v.birth h) (ltb h t) (le-leb v.birth h y.2.in_time)
        (lt-ltb h t (⊎_elim (λ k. k) (λ k. let s = l.seen h y.1 k in let q = y.2.none_younger s.0 s.1 s.2 s.4 in let z = s.3 in absurd (omega arith)) (cases_lt h t))))

    from_test : held_between held v.birth t ≡ true → Needs
    from_test a =
        let r = has_any (λ n. leb v.birth n && ltb n t) held a in
        let h = r.0 in
        let p = and_parts (leb v.birth h) (ltb h t) r.2 in
        let low = leb-true v.birth h p.0 in
        let high = ltb-true h t p.1 in
        inr (
          h,
          r.1,
          record {
            stands = stands;
            of_sector = refl;
            in_time = low;
            none_younger = λ w j e c. ⊎_elim (λ k. let q = l.none_between w j e k in absurd (omega arith)) (λ k. k) (cases_lt v.birth w.birth);
          },
        )

    need_link : needed held (sort vs) v ≡ held_between held v.birth t
    need_link =
        let means = words_mean.needed_means held vs v apart stands in
        same_bool _ _ (λ h. to_test (means.0 h)) (λ h. means.1 (from_test h))

  pub need_is_test : (t : ℕ) → Linked held vs v t → needed held (sort vs) v ≡ needed_by held v.birth t
  need_is_test t l = go (eqb t 0) refl l
    where
      go : (b : Bool) → eqb t 0 ≡ b → MatchBool b (IsLast vs v) (IsLink held vs v t) → needed held (sort vs) v ≡ (b || held_between held v.birth t)
      go true e l = need_last l
      go false e l = need_link t l

-- The needed versions, counted by records.
module _ (held : List ℕ) (p : Version → Bool) where
  abbrev pub Fit : Saying → Record → Type 0
  Fit x r = Agrees x r × ((v : Version) → x ≡ version v → p v ≡ needed_by held v.birth r.link)

  not_version : (r : Record) (k : Kind) → r.kind ≡ k → is_version k ≡ false → is_needed held r ≡ false
  not_version r k e f = ap (λ b. b && needed_by held r.birth r.link) (ap is_version e ∙ f)

  of_content : (c : Content) → is_version (kind_of c) ≡ true
  of_content (bytes bs) = refl
  of_content deleted = refl

  -- a record more
  next : (r : Record) (rs : List Record) (b : Bool) → is_needed held r ≡ b → needed_count held (r ∷ rs) ≡ cond b 1 0 + needed_count held rs
  next r rs b e = sum_by-cons (λ r. cond (is_needed held r) 1 0) r rs ∙ ap (λ b. cond b 1 0 + needed_count held rs) e

  skip : (r : Record) (rs : List Record) (m : ℕ) → is_needed held r ≡ false → needed_count held rs ≡ m → needed_count held (r ∷ rs) ≡ m
  skip r rs m e f = let n = next r rs false e in omega arith

  more : (b : Bool) (v : Version) (n : ℕ) (vs : List Version) → n ≡ length vs → cond b 1 0 + n ≡ length (put b v vs)
  more true v n vs e = omega arith
  more false v n vs e = omega arith

  pub count_keep : (xs : List Saying) (rs : List Record) → length rs ≡ length xs → ((k : ℕ) → k < length xs → Fit (get_or xs k nothing) (get_or rs k unused)) →
      needed_count held rs ≡ length (keep p (versions xs))
  unfolding keep versions
  count_keep [] [] l f = refl
  count_keep [] (r ∷ rs) l f = absurd (omega arith)
  count_keep (x ∷ xs) [] l f = absurd (omega arith)
  count_keep (nothing ∷ xs) (r ∷ rs) l f = skip r rs _ (not_version r _ (f 0 (omega arith)).0 refl) (count_keep xs rs (omega arith) (λ k h. f (suc k) (omega arith)))
  count_keep (version v ∷ xs) (r ∷ rs) l f =
      let fit = f 0 (omega arith) in
      let e : is_needed held r ≡ p v = ap (λ k. is_version k && needed_by held r.birth r.link) fit.0.0 ∙ ap (λ b. b && needed_by held r.birth r.link) (of_content v.content) ∙ ap (λ b. needed_by held b r.link) fit.0.2 ∙ sym (fit.1 v refl) in
      next r rs (p v) e ∙ more (p v) v (needed_count held rs) (keep p (versions xs)) (count_keep xs rs (omega arith) (λ k h. f (suc k) (omega arith)))
  count_keep (register g ∷ xs) (r ∷ rs) l f = skip r rs _ (not_version r _ (f 0 (omega arith)).0.0 refl) (count_keep xs rs (omega arith) (λ k h. f (suc k) (omega arith)))
  count_keep (bad c ∷ xs) (r ∷ rs) l f = absurd (f 0 (omega arith)).0

-- The records of a chip's pages, linked by versions of which the pages' are some.
module _ (pages : List Page) (held : List ℕ) (vs : List Version) (rs : List Record) (apart : Apart vs) (there : (v : Version) → In v (versions (sayings pages)) → In v vs)
    (agree : (k : ℕ) → k < length pages → Agrees (said (get_or pages k [])) (get_or rs k unused))
    (linked : (k : ℕ) (v : Version) → k < length pages → said (get_or pages k []) ≡ version v → Linked (reverse held) vs v (get_or rs k unused).link) where
  abbrev test : Version → Bool
  test = needed (reverse held) (sort vs)

  fit : (k : ℕ) → k < length (sayings pages) → Fit held test (get_or (sayings pages) k nothing) (get_or (take (length pages) rs) k unused)
  fit k l =
      let m = length-map pages said in
      let h : k < length pages = omega arith in
      rw (get_or-map said pages k [] nothing h, get_or-take (length pages) rs k unused h) (
        agree k h,
        λ v e. need_is_test (reverse held) vs v apart (there v (versions_in (sayings pages) v (at_says pages (version v) k h e))) _ (linked k v h e) ∙ needed_reverse held v.birth _,
      )

  pub counted : length pages ≤ length rs → needed_count held (take (length pages) rs) ≡ length (keep test (versions (sayings pages)))
  counted long = count_keep held test (sayings pages) (take (length pages) rs) (length-take-le (length pages) rs long ∙ sym (length-map pages said)) fit
