-- What the pages of a chip read as.
use Rattle.std.proofs.Common.{◌≡◌, ℕ, suc, ◌<◌, Bool, true, eqb, leb, List, [], ◌∷◌, sym, refl, ap, ◌∙◌, inl, inr, arith}
use Rattle.std.specs.List.{AllByRecursion}
use Rattle.std.proofs.lemmas.Bool.Decides.{nat_tests}
use Rattle.std.proofs.lemmas.Bool.{eqb-true, or_cases, and_parts}
use Rattle.readings.specs.Versions.{Version, keep, any, has, settle}
use Rattle.readings.specs.Sorted.{In, insert, sort, reading_of, Apart, NeededSuffice, PageAdded, PagesCut, PagesReleased, PagesFrozen, PagesRead}
use Rattle.readings.proofs.Lists.{all_in, keep_all, has_keep}
use Rattle.readings.proofs.Sorted.{in_sort, sort_in, in_keep, keep_in, desc_sort, desc_keep, desc_ext}
use Rattle.readings.proofs.Settle.{settle_drop, settle_fewer, settle_add, settle_cut, settle_freeze}

-- the births that stand in a list
pub born : List Version → Version → Bool
born l v = any (λ (w : Version). eqb v.birth w.birth) l

pub born_in : (l : List Version) (v : Version) → In v l → born l v ≡ true
unfolding born
born_in [] v h = absurd h
born_in (w ∷ ws) v (inl k) = rw k (grind (arith, nat_tests))
born_in (w ∷ ws) v (inr k) = let ih = born_in ws v k in grind (arith, nat_tests)

in_born : (l : List Version) (v : Version) → born l v ≡ true → (w : Version) × In w l × (w.birth ≡ v.birth)
unfolding born
in_born [] v h = let z : ◌≡◌ {A = ℕ} 0 1 = cc in absurd (omega arith)
in_born (w ∷ ws) v h = elim (or_cases (eqb v.birth w.birth) (born ws v) h) [
  | inl t ↦ (w, inl refl, sym (eqb-true v.birth w.birth t))
  | inr t ↦ let r = in_born ws v t in (r.0, inr r.1, r.2)
]

-- the sorted list of some of the pages is a filter of the sorted list of all
pub sort_some : (pages some_of : List Version) → Apart pages → ((v : Version) → In v some_of → In v pages) → sort some_of ≡ keep (born some_of) (sort pages)
sort_some pages some_of a sub =
    desc_ext (sort some_of) (keep (born some_of) (sort pages)) (desc_sort some_of) (desc_keep (born some_of) (sort pages) (desc_sort pages))
    (λ v i. let j = in_sort some_of v i in keep_in (born some_of) (sort pages) v (sort_in pages v a (sub v j)) (born_in some_of v j))
    (λ v i.
    let j = in_keep (born some_of) (sort pages) v i in
    let k = in_born some_of v j.1 in
    sort_in some_of v (λ x y p q. a x y (sub x p) (sub y q))
    (rw (a v k.0 (in_sort pages v j.0) (sub k.0 k.1) (sym k.2)) k.1))

pub needed_suffice : NeededSuffice
unfolding reading_of
needed_suffice label clock held pages some_of a enough =
    ap (λ vs. record { label = label; clock = clock; held = held; versions = vs })
    (ap (settle held) (sort_some pages some_of a enough.0) ∙
    settle_drop held (born some_of) (sort pages) (λ v i t. born_in some_of v (enough.1 v (in_sort pages v i) t)))

-- a version younger than all goes in front
insert_front : (v : Version) (l : List Version) → AllByRecursion (λ w. w.birth < v.birth) l → insert v l ≡ v ∷ l
unfolding insert
insert_front v [] h = refl
insert_front v (w ∷ ws) h = let q = h.0 in grind arith

page_added : PageAdded
unfolding reading_of sort
page_added label clock held pages s c born =
    let v : Version = record { sector = s; birth = suc clock; content = c } in
    let young : AllByRecursion (λ w. w.birth < suc clock) (sort pages) = all_in _ (sort pages) (λ w i. let q = born w (in_sort pages w i) in omega arith) in
    ap (λ vs. record { label = label; clock = suc clock; held = held; versions = vs })
    (ap (settle held) (insert_front v (sort pages) young) ∙ sym (settle_add held v (sort pages) young))

-- a filter before a sort
sort_keep : (p : Version → Bool) (pages : List Version) → Apart pages → sort (keep p pages) ≡ keep p (sort pages)
sort_keep p pages a =
    desc_ext (sort (keep p pages)) (keep p (sort pages)) (desc_sort (keep p pages)) (desc_keep p (sort pages) (desc_sort pages))
    (λ v i. let j = in_keep p pages v (in_sort (keep p pages) v i) in keep_in p (sort pages) v (sort_in pages v a j.0) j.1)
    (λ v i.
    let j = in_keep p (sort pages) v i in
    sort_in (keep p pages) v (λ x y s t. a x y (in_keep p pages x s).0 (in_keep p pages y t).0)
    (keep_in p pages v (in_sort pages v j.0) j.1))

pages_cut : PagesCut
unfolding reading_of
pages_cut label clock held pages n h a holds sub =
    ap (λ vs. record { label = label; clock = suc clock; held = keep h held; versions = vs })
    (ap (settle (keep h held)) (sort_keep (λ v. leb v.birth n) pages a) ∙
    sym (settle_cut held (keep h held) n (sort pages) holds
    (λ m i. let r = and_parts (has m held) (h m) (rw has_keep at i) in (r.0, sub m r.1))))

pages_released : PagesReleased
unfolding reading_of
pages_released label clock held pages h =
    ap (λ vs. record { label = label; clock = suc clock; held = keep h held; versions = vs })
    (sym (ap (settle (keep h held)) (keep_all (settle held (sort pages))) ∙
    settle_fewer held (keep h held) (sort pages) (λ m i. (and_parts (has m held) (h m) (rw has_keep at i)).0)))

pages_frozen : PagesFrozen
unfolding reading_of
pages_frozen label clock held pages b = settle_freeze held (suc clock) (sort pages) (all_in _ (sort pages) (λ v i. let q = b v (in_sort pages v i) in omega arith))

pub pages_read : PagesRead
pages_read = record { suffice = needed_suffice; added = page_added; cut = pages_cut; released = pages_released; frozen = pages_frozen }
