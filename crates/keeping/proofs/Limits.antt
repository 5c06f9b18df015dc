-- The numbers of a page are within their limits.
use Rattle.std.proofs.Common.{◌≡◌, ℕ, ◌<◌, ◌≤◌, Bool, true, false, cond, ◌&&◌, ◌||◌, eqb, leb, ◌⊎◌, length, get_or, take, drop, Some, None, Option, refl, inl, inr, arith}
use Rattle.std.proofs.lemmas.Bool.Decides.{nat_tests}
use Rattle.std.proofs.lemmas.Bool.{leb-true, and_parts}
use Rattle.chip.specs.Pages.{Page, is_erased}
use Rattle.limits.specs.Numbers.{rising}
use Rattle.layout.specs.Bytes.{all_zero, u16_at, u32_at, words}
use Rattle.layout.specs.Parts.{end_of, register_kinds, part_at}
use Rattle.layout.specs.Page.{Erased, Data, Deletion, Register as Sheet, Bad, tag_sound, tag_at, go_together, tagged_meaning, register_meaning, register_with_end}
use Rattle.layout.proofs.Words.{length_words}
use Rattle.layout.proofs.RegisterRead.{bounds, length_part}
use Rattle.readings.specs.Sayings.{Saying, nothing, version, register, bad, heard, said}
use Rattle.readings.specs.Reading.{birth_of}
use Rattle.readings.specs.Changes.{last_clock, last_sector}
use Rattle.keeping.specs.Stored.{InLimits}

module _ (p : Page) where
  register_limits : (o : Option ℕ) (b : ℕ) → end_of register_kinds p ≡ o → 1 ≤ b → b ≤ last_clock → InLimits (heard (register_with_end o b p) p)
  register_limits None b e l h = tt
  register_limits (Some end) b e l h = go (rising 0 b (words (part_at p 0))) (all_zero (drop end (take 512 p))) refl
    where
      few : length (words (part_at p 0)) ≤ 8
      few = omega (arith, length_words (part_at p 0), length_part p 0 32 (bounds p end e).few)

      go : (x y : Bool) → rising 0 b (words (part_at p 0)) ≡ x → InLimits (heard (cond x (cond y (Sheet b (words (part_at p 0)) (part_at p 1)) (Bad 34)) (Bad 33)) p)
      go true true t = record { first = l; last = h; few = few; known = t; short = length_part p 1 32 (bounds p end e).short }
      go true false t = tt
      go false y t = tt

  sector_limit : (k s : ℕ) → cond (eqb k 3) (eqb s 65535) (leb s 2047 && (eqb k 1 || eqb k 2)) ≡ true → eqb k 3 ≡ false → s ≤ last_sector
  sector_limit k s h e = grind (arith, nat_tests)

  not_three : (k : ℕ) → eqb k 1 ≡ true → eqb k 3 ≡ false
  not_three k e = grind (arith, nat_tests)

  not_three_two : (k : ℕ) → eqb k 2 ≡ true → eqb k 3 ≡ false
  not_three_two k e = grind (arith, nat_tests)

  tagged_limits : (k s b : ℕ) → go_together k s b ≡ true → InLimits (heard (tagged_meaning (Some (k, s, b)) p) p)
  tagged_limits k s b h =
      let f = and_parts (leb 1 b) (leb b 4294967294 && cond (eqb k 3) (eqb s 65535) (leb s 2047 && (eqb k 1 || eqb k 2))) h in
      let g = and_parts (leb b 4294967294) (cond (eqb k 3) (eqb s 65535) (leb s 2047 && (eqb k 1 || eqb k 2))) f.1 in
      go (eqb k 0) (eqb k 1) (eqb k 2) (all_zero (take 512 p)) refl refl (leb-true 1 b f.0) (leb-true b 4294967294 g.0) g.1
    where
      go : (w x y z : Bool) → eqb k 1 ≡ x → eqb k 2 ≡ y → 1 ≤ b → b ≤ last_clock → cond (eqb k 3) (eqb s 65535) (leb s 2047 && (eqb k 1 || eqb k 2)) ≡ true →
          InLimits (heard (cond w Erased (cond x (Data s b) (cond y (cond z (Deletion s b) (Bad 31)) (register_meaning b p)))) p)
      go true x y z e1 e2 l u t = tt
      go false true y z e1 e2 l u t = record { first = l; last = u; sector = sector_limit k s t (not_three k e1) }
      go false false true true e1 e2 l u t = record { first = l; last = u; sector = sector_limit k s t (not_three_two k e2) }
      go false false true false e1 e2 l u t = tt
      go false false false z e1 e2 l u t = register_limits (end_of register_kinds p) b refl l u

  sound_tag : tag_sound p ≡ true → go_together (get_or p 512 0) (u16_at p 514) (u32_at p 516) ≡ true
  sound_tag h =
      (and_parts (all_zero (drop 520 p)) (go_together (get_or p 512 0) (u16_at p 514) (u32_at p 516))
      (and_parts (eqb (get_or p 513 0) 0) (all_zero (drop 520 p) && go_together (get_or p 512 0) (u16_at p 514) (u32_at p 516)) h).1).1

  pub said_limits : InLimits (said p)
  unfolding said
  said_limits = go (is_erased p) (tag_sound p) refl
    where
      go : (x y : Bool) → tag_sound p ≡ y → InLimits (heard (tagged_meaning (cond x (Some (0, 0, 0)) (cond y (Some (tag_at p)) None)) p) p)
      go true y e = tt
      go false false e = tt
      go false true e = tagged_limits (get_or p 512 0) (u16_at p 514) (u32_at p 516) (sound_tag e)

-- A programmed page that is not bad has a birth from 1 on.
pub birth_first : (x : Saying) → InLimits x → ((c : ℕ) → x ≡ bad c → ⊥) → (x ≡ nothing) ⊎ (0 < birth_of x)
birth_first nothing l n = inl refl
birth_first (version v) l n = inr l.first
birth_first (register r) l n = inr l.first
birth_first (bad c) l n = absurd (n c refl)
