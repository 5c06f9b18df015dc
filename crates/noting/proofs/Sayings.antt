-- What is said, by places and by births.
use Rattle.std.proofs.Common.{◌≡◌, ℕ, ◌≤◌, true, leb, ◌⊎◌, List, [], ◌∷◌, refl, ap, inl, inr, arith}
use Rattle.std.proofs.lemmas.Bool.{leb-true, leb-false, cond_both}
use Rattle.chip.specs.Pages.{Page, is_erased}
use Rattle.readings.specs.Versions.{Version}
use Rattle.readings.specs.Sorted.{In}
use Rattle.readings.specs.Sayings.{Register, Saying, nothing, version, register, bad, said}
use Rattle.readings.specs.Reading.{birth_of, clock_of, younger, latest}

pub said_erased : (p : Page) → is_erased p ≡ true → said p ≡ nothing
unfolding said
said_erased p e = rw e refl

-- Which saying it is.
pub same_version : (v w : Version) → version v ≡ version w → v ≡ w
same_version v w e = cc

pub same_register : (g h : Register) → register g ≡ register h → g ≡ h
same_register g h e = cc

pub version_says : (v : Version) → version v ≡ nothing → ⊥
version_says v e = let z : ◌≡◌ {A = ℕ} 0 1 = cc in omega arith

pub register_says : (g : Register) → register g ≡ nothing → ⊥
register_says g e = let z : ◌≡◌ {A = ℕ} 0 1 = cc in omega arith

pub not_version : (g : Register) (v : Version) → register g ≡ version v → ⊥
not_version g v e = let z : ◌≡◌ {A = ℕ} 0 1 = cc in omega arith

-- The clock.
pub clock_above : (xs : List Saying) (x : Saying) → In x xs → birth_of x ≤ clock_of xs
unfolding clock_of
clock_above [] x h = absurd h
clock_above (y ∷ ys) x (inl e) = let q = ap birth_of e in omega arith
clock_above (y ∷ ys) x (inr h) = let ih = clock_above ys x h in omega arith

pub clock_below : (xs : List Saying) (n : ℕ) → ((x : Saying) → In x xs → birth_of x ≤ n) → clock_of xs ≤ n
unfolding clock_of
clock_below [] n h = omega arith
clock_below (y ∷ ys) n h = let a = h y (inl refl) in let ih = clock_below ys n (λ x i. h x (inr i)) in omega arith

-- The youngest register.
pub latest_above : (xs : List Saying) (r : Register) → In (register r) xs → r.birth ≤ (latest xs).birth
unfolding latest
latest_above [] r h = absurd h
latest_above (x ∷ xs) r h = go x h (latest_above xs r)
  where
    go : (x : Saying) → In (register r) (x ∷ xs) → (In (register r) xs → r.birth ≤ (latest xs).birth) → r.birth ≤ (younger x (latest xs)).birth
    go nothing (inl e) ih = let z : ◌≡◌ {A = ℕ} 0 1 = cc in absurd (omega arith)
    go nothing (inr i) ih = ih i
    go (version w) (inl e) ih = let z : ◌≡◌ {A = ℕ} 0 1 = cc in absurd (omega arith)
    go (version w) (inr i) ih = ih i
    go (register s) (inl e) ih = let q : r.birth ≡ s.birth = ap birth_of e in
        cond_both (leb (latest xs).birth s.birth) s (latest xs) (λ (z : Register). r.birth ≤ z.birth) (λ t. omega arith) (λ t. let u = leb-false (latest xs).birth s.birth t in omega arith)
    go (register s) (inr i) ih = let q = ih i in
        cond_both (leb (latest xs).birth s.birth) s (latest xs) (λ (z : Register). r.birth ≤ z.birth) (λ t. let u = leb-true (latest xs).birth s.birth t in omega arith) (λ t. q)
    go (bad c) (inl e) ih = let z : ◌≡◌ {A = ℕ} 0 1 = cc in absurd (omega arith)
    go (bad c) (inr i) ih = ih i

latest_or : (xs : List Saying) → In (register (latest xs)) xs ⊎ ((latest xs).birth ≡ 0)
unfolding latest
latest_or [] = inr refl
latest_or (x ∷ xs) = go x (latest_or xs)
  where
    go : (x : Saying) → In (register (latest xs)) xs ⊎ ((latest xs).birth ≡ 0) → In (register (younger x (latest xs))) (x ∷ xs) ⊎ ((younger x (latest xs)).birth ≡ 0)
    go nothing (inl i) = inl (inr i)
    go nothing (inr e) = inr e
    go (version w) (inl i) = inl (inr i)
    go (version w) (inr e) = inr e
    go (register s) (inl i) =
        cond_both (leb (latest xs).birth s.birth) s (latest xs) (λ (z : Register). In (register z) (register s ∷ xs) ⊎ (z.birth ≡ 0)) (λ t. inl (inl refl)) (λ t. inl (inr i))
    go (register s) (inr e) =
        cond_both (leb (latest xs).birth s.birth) s (latest xs) (λ (z : Register). In (register z) (register s ∷ xs) ⊎ (z.birth ≡ 0)) (λ t. inl (inl refl)) (λ t. inr e)
    go (bad c) (inl i) = inl (inr i)
    go (bad c) (inr e) = inr e

pub latest_in : (xs : List Saying) (r : Register) → In (register r) xs → In (register (latest xs)) xs
unfolding latest
latest_in [] r h = absurd h
latest_in (x ∷ xs) r h = go x h (latest_in xs r) (latest_or xs)
  where
    go : (x : Saying) → In (register r) (x ∷ xs) → (In (register r) xs → In (register (latest xs)) xs) → In (register (latest xs)) xs ⊎ ((latest xs).birth ≡ 0) → In (register (younger x (latest xs))) (x ∷ xs)
    go nothing (inl e) ih o = let z : ◌≡◌ {A = ℕ} 0 1 = cc in absurd (omega arith)
    go nothing (inr i) ih o = inr (ih i)
    go (version w) (inl e) ih o = let z : ◌≡◌ {A = ℕ} 0 1 = cc in absurd (omega arith)
    go (version w) (inr i) ih o = inr (ih i)
    go (register s) h ih (inl i) =
        cond_both (leb (latest xs).birth s.birth) s (latest xs) (λ (z : Register). In (register z) (register s ∷ xs)) (λ t. inl refl) (λ t. inr i)
    go (register s) h ih (inr e) =
        cond_both (leb (latest xs).birth s.birth) s (latest xs) (λ (z : Register). In (register z) (register s ∷ xs)) (λ t. inl refl) (λ t. let u = leb-false (latest xs).birth s.birth t in absurd (omega arith))
    go (bad c) (inl e) ih o = let z : ◌≡◌ {A = ℕ} 0 1 = cc in absurd (omega arith)
    go (bad c) (inr i) ih o = inr (ih i)
