-- How many pages cleaning loses.
use Rattle.std.proofs.Common.{◌≡◌, ◌+◌, Bool, true, false, not, ◌&&◌, List, [], ◌∷◌, length, sym, refl, ap, ◌∙◌, inl, inr, arith}
use Rattle.std.proofs.lemmas.Bool.{both_ways}
use Rattle.chip.specs.Pages.{Page}
use Rattle.readings.specs.Versions.{Reading, put, keep}
use Rattle.readings.specs.Sorted.{In}
use Rattle.readings.specs.Sayings.{Saying, nothing, version, register, bad, sayings}
use Rattle.readings.specs.Reading.{must}
use Rattle.readings.specs.Mount.{is_nothing}
use Rattle.readings.proofs.Lists.{keep_ext, all_in}
use Rattle.moving.specs.Sound.{staying}
use Rattle.moving.specs.Kept.{stale, all_stale}
use Rattle.keeping.specs.Opened.{link_in, no_limit}
use Rattle.keeping.specs.Stale.{StaleByRecord, StaleAfter, OnlyStaleLost}
use Rattle.keeping.proofs.Opened.{staying_is_must}
use Rattle.keeping.proofs.Cleaned.{cleaning_keeps}
use Rattle.keeping.proofs.Room.{must_count}

-- Stale by one test and by another, where the two agree on what is said.
pub same_stale : (p q : Saying → Bool) (pages : List Page) → ((x : Saying) → In x (sayings pages) → p x ≡ q x) → all_stale p pages ≡ all_stale q pages
same_stale p q pages h =
    ap length (keep_ext (stale p) (stale q) (sayings pages) (all_in (λ x. stale p x ≡ stale q x) (sayings pages) (λ x i. ap (λ b. not (is_nothing x) && not b) (h x i))))

-- A programmed page stays or is stale.
split : (p : Saying → Bool) → ((x : Saying) → is_nothing x ≡ true → p x ≡ false) → (xs : List Saying) →
    length (keep (λ x. not (is_nothing x)) xs) ≡ length (keep p xs) + length (keep (stale p) xs)
unfolding keep
split p n [] = refl
split p n (x ∷ xs) = go (is_nothing x) (p x) refl refl (split p n xs)
  where
    go : (a b : Bool) → is_nothing x ≡ a → p x ≡ b → length (keep (λ y. not (is_nothing y)) xs) ≡ length (keep p xs) + length (keep (stale p) xs) →
        length (put (not a) x (keep (λ y. not (is_nothing y)) xs)) ≡ length (put b x (keep p xs)) + length (put (not a && not b) x (keep (stale p) xs))
    go true true e f ih = absurd (both_ways (p x) (n x e) f)
    go true false e f ih = ih
    go false true e f ih = omega arith
    go false false e f ih = omega arith

must_says : (xs : List Saying) (x : Saying) → is_nothing x ≡ true → must xs x ≡ false
unfolding must
must_says xs nothing e = refl
must_says xs (version v) e = absurd (both_ways false refl e)
must_says xs (register r) e = absurd (both_ways false refl e)
must_says xs (bad c) e = absurd (both_ways false refl e)

pub stale_by_record : StaleByRecord
unfolding must
stale_by_record blocks per pages ix pages' o less =
    same_stale (staying ix (link_in pages ix) no_limit) (must (sayings pages)) pages'
    (λ x i. elim (less x i) [
      | inl e ↦ ap (staying ix (link_in pages ix) no_limit) e ∙ sym (ap (must (sayings pages)) e)
      | inr j ↦ staying_is_must blocks per pages ix o x j
    ])

pub stale_after : StaleAfter
stale_after blocks per pages ix pages' ix' o c =
    let s = cleaning_keeps blocks per pages ix pages' ix' o c in
    same_stale (must (sayings pages')) (must (sayings pages)) pages' (λ x i. s.needs x)

pub only_stale_lost : OnlyStaleLost
only_stale_lost blocks per pages ix pages' ix' o c =
    let s = cleaning_keeps blocks per pages ix pages' ix' o c in
    let xs = sayings pages in
    let ys = sayings pages' in
    let a = split (must xs) (must_says xs) xs in
    let b = split (must ys) (must_says ys) ys in
    let m = must_count blocks per pages o.accepted in
    let n = must_count blocks per pages' s.opened.accepted in
    let r = ap (λ (z : Reading). length z.versions) s.reads in
    omega arith
