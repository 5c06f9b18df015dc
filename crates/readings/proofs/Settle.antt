-- The needed versions: what may be dropped, added and cut.
use Rattle.std.proofs.Common.{◌≡◌, ℕ, ◌<◌, ◌≤◌, Bool, true, false, ◌&&◌, ◌||◌, eqb, leb, List, [], ◌∷◌, sym, refl, ap, ◌∙◌, inl, inr, true≢false, arith}
use mathlib.Core.Bool.{and_comm}
use mathlib.Core.Option.{some}
use Rattle.std.specs.List.{AllByRecursion}
use Rattle.std.proofs.lemmas.Bool.Decides.{nat_tests}
use Rattle.std.proofs.ByRecursion.{All-weaker}
use Rattle.std.proofs.lemmas.Bool.{eqb-true, eq-eqb, or_cases, or_left, or_right, and_parts}
use Rattle.readings.specs.Versions.{keep, any, choose, first, has, Version, Bound, now, upto, within, of, youngest, is, youngest_of, needed, settle}
use Rattle.readings.specs.Sorted.{In}
use Rattle.readings.proofs.Lists.{first_keep, keep_ext, first_ext, keep_keep, first_of_keep, all_of, all_in, first_passes, first_in}

same_bool : (a b : Bool) → (a ≡ true → b ≡ true) → (b ≡ true → a ≡ true) → a ≡ b
same_bool a b f g = grind arith

and_second : (a b : Bool) → (b ≡ true → a ≡ true) → (a && b) ≡ b
and_second a b f = grind arith

-- a bound that counts: now, or a held number
abbrev pub Counts : List ℕ → Bound → Type 0
Counts held now = Unit {0}
Counts held (upto n) = has n held ≡ true

pub any_has : (p : ℕ → Bool) (l : List ℕ) (n : ℕ) → has n l ≡ true → p n ≡ true → any p l ≡ true
any_has p [] n h t = grind arith
any_has p (m ∷ ms) n h t = let ih = any_has p ms n in grind (arith, nat_tests)

-- what passes at some element
pub has_any : (p : ℕ → Bool) (l : List ℕ) → any p l ≡ true → (n : ℕ) × (has n l ≡ true) × (p n ≡ true)
has_any p [] h = let z : ◌≡◌ {A = ℕ} 0 1 = cc in absurd (omega arith)
has_any p (m ∷ ms) h = elim (or_cases (p m) (any p ms) h) [
  | inl t ↦ (m, or_left (eqb m m) (has m ms) (eq-eqb m m refl), t)
  | inr t ↦ let r = has_any p ms t in (r.0, or_right (eqb r.0 m) (has r.0 ms) r.1, r.2)
]

-- needed is: the youngest within some bound that counts
pub needed_by_lem : (held : List ℕ) (l : List Version) (v : Version) (b : Bound) → Counts held b → youngest_of l v b ≡ true → needed held l v ≡ true
unfolding needed
needed_by_lem held l v now c t = or_left (youngest_of l v now) (any (λ n. youngest_of l v (upto n)) held) t
needed_by_lem held l v (upto n) c t = or_right (youngest_of l v now) (any (λ n. youngest_of l v (upto n)) held) (any_has (λ n. youngest_of l v (upto n)) held n c t)

pub needed_at : (held : List ℕ) (l : List Version) (v : Version) → needed held l v ≡ true → (b : Bound) × Counts held b × (youngest_of l v b ≡ true)
unfolding needed
needed_at held l v h = elim (or_cases (youngest_of l v now) (any (λ n. youngest_of l v (upto n)) held) h) [
  | inl t ↦ (now, tt, t)
  | inr t ↦ let r = has_any (λ n. youngest_of l v (upto n)) held t in (upto r.0, r.1, r.2)
]

-- what is the youngest within a bound that counts is needed
pub youngest_needed : (held : List ℕ) (l : List Version) (b : Bound) (s : ℕ) (v : Version) → Counts held b → youngest b s l ≡ some v → needed held l v ≡ true
youngest_needed held l b s v c h =
    let e : v.sector ≡ s = eqb-true v.sector s (and_parts (eqb v.sector s) (within b v.birth) (first_passes (of b s) l v h)).0 in
    needed_by_lem held l v b c (rw e (rw h (eq-eqb v.birth v.birth refl)))

-- a filter that keeps all that is needed changes no youngest within a bound that counts
pub youngest_kept : (held : List ℕ) (p : Version → Bool) (l : List Version) → ((v : Version) → In v l → needed held l v ≡ true → p v ≡ true) →
    (b : Bound) (s : ℕ) → Counts held b → youngest b s (keep p l) ≡ youngest b s l
youngest_kept held p l keeps b s c = first_keep p (of b s) l (λ v h. keeps v (first_in (of b s) l v h) (youngest_needed held l b s v c h))

-- the test of being needed turns on those youngest alone
pub needed_like : (held : List ℕ) (l m : List Version) → ((b : Bound) (s : ℕ) → Counts held b → youngest b s l ≡ youngest b s m) →
    (v : Version) → needed held l v ≡ true → needed held m v ≡ true
needed_like held l m same v h =
    let r = needed_at held l v h in
    needed_by_lem held m v r.0 r.1 (rw (same r.0 v.sector r.1) at r.2)

pub needed_ext : (held : List ℕ) (l m : List Version) → ((b : Bound) (s : ℕ) → Counts held b → youngest b s l ≡ youngest b s m) →
    (v : Version) → needed held l v ≡ needed held m v
needed_ext held l m same v =
    same_bool (needed held l v) (needed held m v) (needed_like held l m same v) (needed_like held m l (λ b s c. sym (same b s c)) v)

-- and nothing of the reading
pub settle_drop : (held : List ℕ) (p : Version → Bool) (l : List Version) → ((v : Version) → In v l → needed held l v ≡ true → p v ≡ true) →
    settle held (keep p l) ≡ settle held l
unfolding settle
settle_drop held p l keeps =
    keep_ext (needed held (keep p l)) (needed held l) (keep p l) (all_of _ (keep p l) (needed_ext held (keep p l) l (youngest_kept held p l keeps)))
    ∙ keep_keep (needed held l) p l
    ∙ keep_ext (λ v. p v && needed held l v) (needed held l) l (all_in _ l (λ v i. and_second (p v) (needed held l v) (keeps v i)))

-- fewer held numbers need no more
pub needed_fewer : (held fewer : List ℕ) (l : List Version) → ((n : ℕ) → has n fewer ≡ true → has n held ≡ true) → (v : Version) → needed fewer l v ≡ true → needed held l v ≡ true
needed_fewer held fewer l sub v h = let r = needed_at fewer l v h in go r.0 r.1 r.2
  where
    go : (b : Bound) → Counts fewer b → youngest_of l v b ≡ true → needed held l v ≡ true
    go now c t = needed_by_lem held l v now tt t
    go (upto n) c t = needed_by_lem held l v (upto n) (sub n c) t

pub settle_fewer : (held fewer : List ℕ) (l : List Version) → ((n : ℕ) → has n fewer ≡ true → has n held ≡ true) →
    settle fewer (settle held l) ≡ settle fewer l
unfolding settle
settle_fewer held fewer l sub = settle_drop fewer (needed held l) l (λ v i. needed_fewer held fewer l sub v)

-- one more version, younger than all
add_keeps : (held : List ℕ) (v : Version) (l : List Version) (x : Version) → needed held (v ∷ l) x ≡ true → (eqb x.birth v.birth || needed held l x) ≡ true
unfolding first
add_keeps held v l x h =
    let r = needed_at held (v ∷ l) x h in
    go r.0 r.1 (eqb x.birth v.birth) (of r.0 x.sector v) refl refl r.2
  where
    go : (b : Bound) → Counts held b → (e o : Bool) → eqb x.birth v.birth ≡ e → of b x.sector v ≡ o →
        is x (choose (of b x.sector v) v (youngest b x.sector l)) ≡ true → (eqb x.birth v.birth || needed held l x) ≡ true
    go b c true o p q t = or_left (eqb x.birth v.birth) (needed held l x) p
    go b c false true p q t = let z : ◌≡◌ {A = Bool} true false = sym (rw q at t) ∙ p in absurd (true≢false z)
    go b c false false p q t = or_right (eqb x.birth v.birth) (needed held l x) (needed_by_lem held l x b c (rw q at t))

pub settle_add : (held : List ℕ) (v : Version) (l : List Version) → AllByRecursion (λ w. w.birth < v.birth) l →
    settle held (v ∷ settle held l) ≡ settle held (v ∷ l)
unfolding keep settle
settle_add held v l young = ap (settle held) same ∙ settle_drop held (λ x. eqb x.birth v.birth || needed held l x) (v ∷ l) (λ x i. add_keeps held v l x)
  where
    same : v ∷ settle held l ≡ keep (λ x. eqb x.birth v.birth || needed held l x) (v ∷ l)
    same = rw (eq-eqb v.birth v.birth refl)
        (ap (λ m. v ∷ m) (keep_ext (needed held l) (λ x. eqb x.birth v.birth || needed held l x) l
        (All-weaker (λ w. w.birth < v.birth) _ (λ w h. grind (arith, nat_tests)) l young)))

-- a cut at a held number
cut_keeps : (held fewer : List ℕ) (n : ℕ) (l : List Version) → has n held ≡ true → ((m : ℕ) → has m fewer ≡ true → (has m held ≡ true) × (m ≤ n)) →
    (x : Version) → needed fewer (keep (λ v. leb v.birth n) l) x ≡ true → needed held l x ≡ true
cut_keeps held fewer n l holds sub x h = let r = needed_at fewer (keep (λ v. leb v.birth n) l) x h in go r.0 r.1 r.2
  where
    go : (b : Bound) → Counts fewer b → youngest_of (keep (λ v. leb v.birth n) l) x b ≡ true → needed held l x ≡ true
    go now c t = needed_by_lem held l x (upto n) holds
        (rw (← (first_ext (λ v. leb v.birth n && of now x.sector v) (of (upto n) x.sector) l (all_of _ l (λ v. grind (arith, nat_tests)))))
        (rw (first_of_keep (of now x.sector) (λ v. leb v.birth n) l) at t))
    go (upto m) c t =
        let k = sub m c in
        needed_by_lem held l x (upto m) k.0
        (rw (← (first_ext (λ v. leb v.birth n && of (upto m) x.sector v) (of (upto m) x.sector) l (all_of _ l (λ v. let q : m ≤ n = k.1 in grind (arith, nat_tests)))))
        (rw (first_of_keep (of (upto m) x.sector) (λ v. leb v.birth n) l) at t))

pub settle_cut : (held fewer : List ℕ) (n : ℕ) (l : List Version) → has n held ≡ true → ((m : ℕ) → has m fewer ≡ true → (has m held ≡ true) × (m ≤ n)) →
    settle fewer (keep (λ v. leb v.birth n) (settle held l)) ≡ settle fewer (keep (λ v. leb v.birth n) l)
unfolding settle
settle_cut held fewer n l holds sub = ap (settle fewer) swap ∙ settle_drop fewer (needed held l) (keep (λ v. leb v.birth n) l) (λ x i. cut_keeps held fewer n l holds sub x)
  where
    swap : keep (λ v. leb v.birth n) (settle held l) ≡ keep (needed held l) (keep (λ v. leb v.birth n) l)
    swap = keep_keep (λ v. leb v.birth n) (needed held l) l
        ∙ keep_ext (λ v. needed held l v && leb v.birth n) (λ v. leb v.birth n && needed held l v) l (all_of _ l (λ v. and_comm (needed held l v) (leb v.birth n)))
        ∙ sym (keep_keep (needed held l) (λ v. leb v.birth n) l)

-- a number held from now on
pub settle_freeze : (held : List ℕ) (n : ℕ) (l : List Version) → AllByRecursion (λ w. w.birth ≤ n) l → settle (n ∷ held) l ≡ settle held l
unfolding settle
settle_freeze held n l old = keep_ext (needed (n ∷ held) l) (needed held l) l (all_of _ l (λ v. same_bool (needed (n ∷ held) l v) (needed held l v) (less v) (more v)))
  where
    more : (v : Version) → needed held l v ≡ true → needed (n ∷ held) l v ≡ true
    more = needed_fewer (n ∷ held) held l (λ m h. or_right (eqb m n) (has m held) h)

    go : (v : Version) (b : Bound) → Counts (n ∷ held) b → youngest_of l v b ≡ true → needed held l v ≡ true
    go v now c t = needed_by_lem held l v now tt t
    go v (upto m) c t = elim (or_cases (eqb m n) (has m held) c) [
      | inl e ↦ needed_by_lem held l v now tt
          (rw (first_ext (of now v.sector) (of (upto m) v.sector) l
          (All-weaker (λ w. w.birth ≤ n) _ (λ w h. let q : m ≡ n = eqb-true m n e in grind (arith, nat_tests)) l old)) t)
      | inr e ↦ needed_by_lem held l v (upto m) e t
    ]

    less : (v : Version) → needed (n ∷ held) l v ≡ true → needed held l v ≡ true
    less v h = let r = needed_at (n ∷ held) l v h in go v r.0 r.1 r.2
