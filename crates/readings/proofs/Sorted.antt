-- Lists of versions, youngest first.
use Rattle.std.proofs.Common.{◌≡◌, ℕ, ◌<◌, Bool, true, false, List, [], ◌∷◌, sym, refl, ap, ◌∙◌, inl, inr, arith}
use Prim.Native.Nat.{compare, Ordering}
use Rattle.readings.specs.Versions.{Version, put, keep}
use Rattle.readings.specs.Sorted.{In, placed, insert, sort, Apart}

abbrev pub Desc : List Version → Type 0
Desc [] = Unit {0}
Desc (v ∷ vs) = ((w : Version) → In w vs → w.birth < v.birth) × Desc vs

-- what stands in a list after an insert, a sort, a filter
pub in_insert : (v : Version) (l : List Version) (x : Version) → In x (insert v l) → In x (v ∷ l)
unfolding insert
in_insert v [] x h = h
in_insert v (w ∷ ws) x h = go (compare v.birth w.birth) h (in_insert v ws x)
  where
    go : (o : Ordering) → In x (placed o v w ws (insert v ws)) → (In x (insert v ws) → In x (v ∷ ws)) → In x (v ∷ w ∷ ws)
    go Ordering.gt h ih = h
    go Ordering.eq h ih = inr h
    go Ordering.lt (inl e) ih = inr (inl e)
    go Ordering.lt (inr e) ih = elim (ih e) [ inl k ↦ inl k | inr k ↦ inr (inr k) ]

pub insert_in : (v : Version) (l : List Version) (x : Version) → ((w : Version) → In w l → w.birth ≡ v.birth → w ≡ v) → In x (v ∷ l) → In x (insert v l)
unfolding insert
insert_in v [] x a h = h
insert_in v (w ∷ ws) x a h = go (compare v.birth w.birth) refl h (insert_in v ws x (λ u i. a u (inr i)))
  where
    go : (o : Ordering) → compare v.birth w.birth ≡ o → In x (v ∷ w ∷ ws) → (In x (v ∷ ws) → In x (insert v ws)) → In x (placed o v w ws (insert v ws))
    go Ordering.gt e h ih = h
    go Ordering.eq e (inl k) ih = inl (k ∙ sym (a w (inl refl) (grind arith)))
    go Ordering.eq e (inr k) ih = k
    go Ordering.lt e (inl k) ih = inr (ih (inl k))
    go Ordering.lt e (inr (inl k)) ih = inl k
    go Ordering.lt e (inr (inr k)) ih = inr (ih (inr k))

pub in_sort : (l : List Version) (x : Version) → In x (sort l) → In x l
unfolding sort
in_sort [] x h = h
in_sort (v ∷ vs) x h = elim (in_insert v (sort vs) x h) [ inl e ↦ inl e | inr e ↦ inr (in_sort vs x e) ]

pub sort_in : (l : List Version) (x : Version) → Apart l → In x l → In x (sort l)
unfolding sort
sort_in [] x a h = h
sort_in (v ∷ vs) x a h = insert_in v (sort vs) x (λ w i e. a w v (inr (in_sort vs w i)) (inl refl) e)
    (elim h [ inl e ↦ inl e | inr e ↦ inr (sort_in vs x (λ u w i j. a u w (inr i) (inr j)) e) ])

pub in_keep : {A : Type 0} (p : A → Bool) (l : List A) (x : A) → In x (keep p l) → In x l × (p x ≡ true)
unfolding keep
in_keep p [] x h = absurd h
in_keep p (y ∷ ys) x h = go (p y) refl h (in_keep p ys x)
  where
    go : (b : Bool) → p y ≡ b → In x (put b y (keep p ys)) → (In x (keep p ys) → In x ys × (p x ≡ true)) → In x (y ∷ ys) × (p x ≡ true)
    go true e (inl k) ih = (inl k, ap p k ∙ e)
    go true e (inr k) ih = let r = ih k in (inr r.0, r.1)
    go false e k ih = let r = ih k in (inr r.0, r.1)

pub keep_in : {A : Type 0} (p : A → Bool) (l : List A) (x : A) → In x l → p x ≡ true → In x (keep p l)
unfolding keep
keep_in p [] x h t = h
keep_in p (y ∷ ys) x h t = go (p y) refl h (λ i. keep_in p ys x i t)
  where
    go : (b : Bool) → p y ≡ b → In x (y ∷ ys) → (In x ys → In x (keep p ys)) → In x (put b y (keep p ys))
    go true e (inl k) ih = inl k
    go true e (inr k) ih = inr (ih k)
    go false e (inl k) ih = let z : ◌≡◌ {A = ℕ} 0 1 = cc (ap p k) in absurd (omega arith)
    go false e (inr k) ih = ih k

-- the order
pub desc_insert : (v : Version) (l : List Version) → Desc l → Desc (insert v l)
unfolding insert
desc_insert v [] d = (λ w i. absurd i, tt)
desc_insert v (w ∷ ws) d = go (compare v.birth w.birth) refl (desc_insert v ws d.1)
  where
    go : (o : Ordering) → compare v.birth w.birth ≡ o → Desc (insert v ws) → Desc (placed o v w ws (insert v ws))
    go Ordering.gt e ih = (λ u i. elim i [ inl k ↦ rw k (grind arith) | inr k ↦ let q = d.0 u k in grind arith ], d)
    go Ordering.eq e ih = d
    go Ordering.lt e ih = (λ u i. elim (in_insert v ws u i) [ inl k ↦ rw k (grind arith) | inr k ↦ d.0 u k ], ih)

pub desc_sort : (l : List Version) → Desc (sort l)
unfolding sort
desc_sort [] = tt
desc_sort (v ∷ vs) = desc_insert v (sort vs) (desc_sort vs)

pub desc_keep : (p : Version → Bool) (l : List Version) → Desc l → Desc (keep p l)
unfolding keep
desc_keep p [] d = tt
desc_keep p (v ∷ vs) d = go (p v) (desc_keep p vs d.1)
  where
    go : (b : Bool) → Desc (keep p vs) → Desc (put b v (keep p vs))
    go true ih = (λ w i. d.0 w (in_keep p vs w i).0, ih)
    go false ih = ih

-- such a list is known by what stands in it
pub desc_ext : (l m : List Version) → Desc l → Desc m → ((x : Version) → In x l → In x m) → ((x : Version) → In x m → In x l) → l ≡ m
desc_ext [] [] d e f g = refl
desc_ext [] (y ∷ ys) d e f g = absurd (g y (inl refl))
desc_ext (x ∷ xs) [] d e f g = absurd (f x (inl refl))
desc_ext (x ∷ xs) (y ∷ ys) d e f g = rw (same, desc_ext xs ys d.1 e.1 down up)
  where
    same : x ≡ y
    same = elim (f x (inl refl)) [ inl k ↦ k | inr k ↦ elim (g y (inl refl)) [ inl j ↦ sym j | inr j ↦ let p = e.0 x k in let q = d.0 y j in absurd (omega arith) ] ]

    down : (z : Version) → In z xs → In z ys
    down z i = elim (f z (inr i)) [ inl k ↦ let q : z.birth < x.birth = d.0 z i in let r : z.birth ≡ x.birth = ap (λ (w : Version). w.birth) (k ∙ sym same) in absurd (omega arith) | inr k ↦ k ]

    up : (z : Version) → In z ys → In z xs
    up z i = elim (g z (inr i)) [ inl k ↦ let q : z.birth < y.birth = e.0 z i in let r : z.birth ≡ y.birth = ap (λ (w : Version). w.birth) (k ∙ same) in absurd (omega arith) | inr k ↦ k ]
