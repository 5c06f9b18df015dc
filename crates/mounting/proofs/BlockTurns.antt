-- Blocks of pages that say nothing.
use Rattle.std.proofs.Common.{◌≡◌, ℕ, zero, suc, ◌+◌, ◌*◌, ◌<◌, ◌≤◌, Bool, true, false, cond, not, ◌&&◌, ◌||◌, ltb, List, [], ◌∷◌, length, get_or, take, drop, position, Some, None, sym, refl, ap, ◌∙◌, mul-le-mul_right, suc-mul, zero-mul, arith}
use Rattle.std.specs.List.{list_all, list_any, position_or_len}
use Rattle.std.proofs.lemmas.List.Quantifiers.{position-Some}
use Rattle.std.proofs.lemmas.Bool.Decides.{nat_tests}
use Rattle.std.proofs.lemmas.List.{drop-drop, take-map, drop-map}
use Rattle.layout.specs.declared.pages.Tag.{Tag}
use Rattle.layout.specs.declared.pages.Tag.TheVariants as tag
use Rattle.readings.specs.Mount.{is_nothing, all_nothing, erased_block}
use Rattle.mounting.specs.Blocks.{blocks_of, ErasedAt}
use Rattle.mounting.specs.Tagged.{tag_saying, tag_sayings, is_blank}

abbrev silent : List Tag → Bool
silent ts = all_nothing (tag_sayings ts)

silent_at : (t : Tag) → is_nothing (tag_saying t) ≡ is_blank t
silent_at tag.Erased = refl
silent_at (tag.Data v) = refl
silent_at (tag.Deletion v) = refl
silent_at (tag.Register b) = refl

silent_is : (ts : List Tag) → list_all is_blank ts ≡ silent ts
unfolding all_nothing
silent_is [] = refl
silent_is (t ∷ ts) = (λ i. sym (silent_at t) i && silent_is ts i)

pub part_silent : (ts : List Tag) (start per : ℕ) → list_all is_blank (take per (drop start ts)) ≡ all_nothing (take per (drop start (tag_sayings ts)))
part_silent ts start per = silent_is (take per (drop start ts)) ∙ ap all_nothing (sym (take-map tag_saying per (drop start ts)) ∙ ap (take per) (sym (drop-map tag_saying start ts)))

-- the first block that says nothing
erased_is : (per n : ℕ) (ts : List Tag) → erased_block per n (tag_sayings ts) ≡ list_any (list_all is_blank) (blocks_of per n ts)
unfolding erased_block
erased_is per zero ts = refl
erased_is per (suc n) ts =
    (λ i. all_nothing (take-map tag_saying per ts i) || erased_block per n (drop-map tag_saying per ts i))
    ∙ (λ i. sym (silent_is (take per ts)) i || erased_is per n (drop per ts) i)

any_is : {X : Type 0} (p : X → Bool) (xs : List X) → list_any p xs ≡ ltb (position_or_len p xs) (length xs)
any_is p [] = refl
any_is p (x ∷ xs) = go (p x) (any_is p xs)
  where
    go : (b : Bool) → list_any p xs ≡ ltb (position_or_len p xs) (length xs) → (b || list_any p xs) ≡ ltb (cond (not b) (1 + position_or_len p xs) 0) (suc (length xs))
    go true e = grind (arith, nat_tests)
    go false e = grind (arith, nat_tests)

length_blocks : (per n : ℕ) (ts : List Tag) → length (blocks_of per n ts) ≡ n
length_blocks per zero ts = refl
length_blocks per (suc n) ts = ap suc (length_blocks per n (drop per ts))

at_block : (per n b : ℕ) (ts : List Tag) → b < n → get_or (blocks_of per n ts) b [] ≡ take per (drop (b * per) ts)
at_block per zero b ts h = absurd (omega arith)
at_block per (suc n) zero ts h = ap (λ k. take per (drop k ts)) (sym (zero-mul per))
at_block per (suc n) (suc b) ts h =
    let e : per + b * per ≡ suc b * per = omega (arith, suc-mul b per) in
    at_block per n b (drop per ts) (omega arith) ∙ ap (take per) (drop-drop (b * per) per ts ∙ ap (λ k. drop k ts) e)

none_is : (b : Bool) (i : ℕ) → None ≡ cond b (Some i) None → b ≡ false
none_is true i e = cc
none_is false i e = refl

some_is : (b : Bool) (i j : ℕ) → Some j ≡ cond b (Some i) None → b ≡ true
some_is true i j e = refl
some_is false i j e = cc

module _ (per blocks : ℕ) (ts : List Tag) where
  abbrev all : List (List Tag)
  all = blocks_of per blocks ts

  pub no_block : None ≡ position (list_all is_blank) all → erased_block per blocks (tag_sayings ts) ≡ false
  no_block e = erased_is per blocks ts ∙ any_is (list_all is_blank) all ∙ none_is _ _ e

  pub some_block : (b : ℕ) → Some b ≡ position (list_all is_blank) all → ErasedAt per blocks (tag_sayings ts) b
  some_block b e =
      let q = position-Some (list_all is_blank) all b [] (sym e) in
      let low : b < blocks = let z = q.0 in let l = length_blocks per blocks ts in omega arith in
      record {
        some = erased_is per blocks ts ∙ any_is (list_all is_blank) all ∙ some_is _ _ b e;
        stands = low;
        silent = sym (part_silent ts (b * per) per) ∙ ap (list_all is_blank) (sym (at_block per blocks b ts low)) ∙ q.1;
      }

pub block_fits : (per blocks k : ℕ) → k < blocks → (n : ℕ) → n ≡ blocks * per → k * per + per ≤ n
block_fits per blocks k lt n whole = omega (arith, whole, mul-le-mul_right {m = suc k} {n = blocks} per lt, suc-mul k per)
