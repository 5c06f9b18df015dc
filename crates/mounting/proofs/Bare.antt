-- What is asked of a store turns on tags alone.
use Rattle.std.proofs.Common.{◌≡◌, ℕ, zero, suc, ◌<◌, max, ◌&&◌, ◌||◌, List, [], ◌∷◌, map, take, drop, Some, sym, refl, ap, ◌∙◌, subst, inl, inr, arith}
use Rattle.std.proofs.lemmas.List.{take-map, drop-map}
use Rattle.limits.specs.declared.types.Version as limits
use Rattle.layout.specs.declared.pages.Tag.{Tag}
use Rattle.layout.specs.declared.pages.Tag.TheVariants as tag
use Rattle.readings.specs.Versions.{Content, bytes, deleted, Version}
use Rattle.readings.specs.Sorted.{In}
use Rattle.readings.specs.Sayings.{Saying, nothing, version, register, bad}
use Rattle.readings.specs.Reading.{birth_of, versions, clock_of}
use Rattle.readings.specs.Mount.{births, is_nothing, all_nothing, erased_block}
use Rattle.tables.specs.Records.{Agrees, kind_of}
use Rattle.tables.specs.declared.types.Record.{Record}
use Rattle.mounting.specs.Tagged.{bare_content, bare_version, bare, tag_saying, tag_sayings, version_in, Tagged}
use Rattle.mounting.specs.Keys.{key_of, keys}

births_bare : (xs : List Saying) → births (map bare xs) ≡ births xs
unfolding births
births_bare [] = refl
births_bare (nothing ∷ xs) = births_bare xs
births_bare (version v ∷ xs) = ap (λ l. v.birth ∷ l) (births_bare xs)
births_bare (register r ∷ xs) = ap (λ l. r.birth ∷ l) (births_bare xs)
births_bare (bad c ∷ xs) = ap (λ l. 0 ∷ l) (births_bare xs)

clock_bare : (xs : List Saying) → clock_of (map bare xs) ≡ clock_of xs
unfolding clock_of
clock_bare [] = refl
clock_bare (nothing ∷ xs) = ap (max 0) (clock_bare xs)
clock_bare (version v ∷ xs) = ap (max v.birth) (clock_bare xs)
clock_bare (register r ∷ xs) = ap (max r.birth) (clock_bare xs)
clock_bare (bad c ∷ xs) = ap (max 0) (clock_bare xs)

keys_bare : (xs : List Saying) → keys (map bare xs) ≡ keys xs
unfolding versions
keys_bare [] = refl
keys_bare (nothing ∷ xs) = keys_bare xs
keys_bare (version v ∷ xs) = ap (λ l. key_of v ∷ l) (keys_bare xs)
keys_bare (register r ∷ xs) = keys_bare xs
keys_bare (bad c ∷ xs) = keys_bare xs

pub is_nothing_bare : (x : Saying) → is_nothing (bare x) ≡ is_nothing x
is_nothing_bare nothing = refl
is_nothing_bare (version v) = refl
is_nothing_bare (register r) = refl
is_nothing_bare (bad c) = refl

silent_bare : (xs : List Saying) → all_nothing (map bare xs) ≡ all_nothing xs
unfolding all_nothing
silent_bare [] = refl
silent_bare (x ∷ xs) = (λ i. is_nothing_bare x i && silent_bare xs i)

block_bare : (per blocks : ℕ) (xs : List Saying) → erased_block per blocks (map bare xs) ≡ erased_block per blocks xs
unfolding erased_block
block_bare per zero xs = refl
block_bare per (suc blocks) xs =
    (λ i. all_nothing (take-map bare per xs i) || erased_block per blocks (drop-map bare per xs i))
    ∙ (λ i. silent_bare (take per xs) i || block_bare per blocks (drop per xs) i)

pub agrees_bare : (x : Saying) (r : Record) → Agrees (bare x) r → Agrees x r
agrees_bare nothing r a = a
agrees_bare (version v) r a = (a.0 ∙ kind_bare v.content, a.1, a.2)
  where
    kind_bare : (c : Content) → kind_of (bare_content c) ≡ kind_of c
    kind_bare (bytes bs) = refl
    kind_bare deleted = refl
agrees_bare (register g) r a = a
agrees_bare (bad c) r a = a

-- what stands in a list after a map
in_map : {X Y : Type 0} (f : X → Y) (l : List X) (x : X) → In x l → In (f x) (map f l)
in_map f [] x i = absurd i
in_map f (y ∷ ys) x (inl e) = inl (ap f e)
in_map f (y ∷ ys) x (inr i) = inr (in_map f ys x i)

map_in : {X Y : Type 0} (f : X → Y) (l : List X) (y : Y) → In y (map f l) → (x : X) × In x l × (y ≡ f x)
map_in f [] y i = absurd i
map_in f (x ∷ xs) y (inl e) = (x, inl refl, e)
map_in f (x ∷ xs) y (inr i) = let r = map_in f xs y i in (r.0, inr r.1, r.2)

birth_bare : (x : Saying) → birth_of (bare x) ≡ birth_of x
birth_bare nothing = refl
birth_bare (version v) = refl
birth_bare (register r) = refl
birth_bare (bad c) = refl

birth_fits : (t : Tag) → birth_of (tag_saying t) < 4294967296
birth_fits tag.Erased = omega arith
birth_fits (tag.Data v) = let q = v.birth.last in omega arith
birth_fits (tag.Deletion v) = let q = v.birth.last in omega arith
birth_fits (tag.Register b) = let q = b.last in omega arith

sectors : {a b : Version} → version a ≡ version b → a.sector ≡ b.sector
sectors {a} {b} e = let f : a ≡ b = cc in ap (λ (x : Version). x.sector) f

-- a tag of a version
pub tag_of_version : (t : Tag) (v : Version) → tag_saying t ≡ version (bare_version v) → (u : limits.Version) × (version_in t ≡ Some u) × (u.sector.number ≡ v.sector)
tag_of_version tag.Erased v e = let z : ◌≡◌ {A = ℕ} 0 1 = cc in absurd (omega arith)
tag_of_version (tag.Data u) v e = (u, refl, sectors e)
tag_of_version (tag.Deletion u) v e = (u, refl, sectors e)
tag_of_version (tag.Register b) v e = let z : ◌≡◌ {A = ℕ} 0 1 = cc in absurd (omega arith)

module _ (xs : List Saying) (ts : List Tag) (tagged : Tagged xs ts) where
  pub tagged_births : births (tag_sayings ts) ≡ births xs
  tagged_births = ap births tagged ∙ births_bare xs

  pub tagged_clock : clock_of (tag_sayings ts) ≡ clock_of xs
  tagged_clock = ap clock_of tagged ∙ clock_bare xs

  pub tagged_keys : keys (tag_sayings ts) ≡ keys xs
  tagged_keys = ap keys tagged ∙ keys_bare xs

  pub tagged_block : (per blocks : ℕ) → erased_block per blocks (tag_sayings ts) ≡ erased_block per blocks xs
  tagged_block per blocks = ap (erased_block per blocks) tagged ∙ block_bare per blocks xs

  pub tagged_fits : (x : Saying) → In x xs → birth_of x < 4294967296
  tagged_fits x i =
      let r = map_in tag_saying ts (bare x) (subst (In (bare x)) (sym tagged) (in_map bare xs x i)) in
      let q = birth_fits r.0 in
      let e : birth_of (bare x) ≡ birth_of (tag_saying r.0) = ap birth_of r.2 in
      let f = birth_bare x in
      omega arith
