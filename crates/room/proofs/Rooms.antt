-- Why there is room.
use Rattle.std.proofs.Common.{◌≡◌, ℕ, ◌+◌, ◌-◌, ◌*◌, ◌<◌, ◌≤◌, Bool, true, false, not, ◌&&◌, List, [], length, get_or, Some, None, Ok, sym, refl, ap, ◌∙◌, subst, inl, inr, arith}
use Rattle.std.proofs.lemmas.Bool.{both_ways, cases_Bool, cases_eq}
use Rattle.chip.specs.declared.BlockNumber.{BlockNumber}
use Rattle.chip.specs.declared.PageNumber.{PageNumber}
use Rattle.chip.specs.Pages.{Page, is_erased}
use Rattle.readings.specs.Sayings.{Saying, nothing, said}
use Rattle.readings.specs.Mount.{is_nothing}
use Rattle.tables.specs.declared.index.Index.{Index}
use Rattle.moving.specs.Sound.{Sound, staying, page_stays}
use Rattle.moving.specs.Kept.{stale, all_stale, stale_in, tally}
use Rattle.moving.specs.Moves.{Answer, Outside, Relocated}
use Rattle.moving.proofs.Places.{blocks_apart, block_inside, is_out, origin_left}
use Rattle.moving.proofs.Says.{said_erased, stays_said, spare_says}
use Rattle.moving.proofs.Tallies.{tally_zero, tally_some, tally_all, tally_ext, tally_nil, tally_parts, count_said}
use Rattle.moving.proofs.Keeps.{kept_refl}
use Rattle.room.specs.Choose.{page_free, page_stale, stale_of, Chosen, Found, Fits, Full, Placed, Cleaned}
use Rattle.room.proofs.Blocks.{page_at, but_one}
use Rattle.room.proofs.Tells.{free_said, free_erased, stale_said}

-- What is neither erased nor stale stays, and what is stale does not.
must_stay : (free stays : Bool) → free ≡ false → (not free && not stays) ≡ false → stays ≡ true
must_stay true true e f = refl
must_stay true false e f = absurd (both_ways true e refl)
must_stay false true e f = refl
must_stay false false e f = absurd (both_ways true f refl)

stale_goes : (free stays : Bool) → (not free && not stays) ≡ true → stays ≡ false
stale_goes true true e = absurd (both_ways false refl e)
stale_goes false true e = absurd (both_ways false refl e)
stale_goes true false e = refl
stale_goes false false e = refl

module _ (blocks per : ℕ) (pages : List Page) (ix : Index) (link last_birth : ℕ → ℕ) (limit : ℕ) (sound : Sound blocks per pages ix link last_birth) (least : 2 ≤ per) where
  abbrev test : Saying → Bool
  test = staying ix link limit

  abbrev low : ℕ
  low = ix.spare.0 * per

  low_inside : low + per ≤ length pages
  low_inside = block_inside per blocks ix.spare.0 (length pages) sound.whole sound.spare_block

  -- Where no block has a stale page, no page outside the spare block is stale.
  none_stale : Chosen ix limit per blocks None → (k : ℕ) → k < length pages → Outside low per k → page_stale ix limit k ≡ false
  none_stale none k h o =
      let at = page_at per blocks k (omega arith) (let w = sound.whole in omega arith) in
      let small = at.small in
      let is = at.is in
      let other : at.block ≡ ix.spare.0 → ⊥ = λ e. let z : at.block * per ≡ low = ap (λ b. b * per) e in elim o [ inl a ↦ omega arith | inr a ↦ omega arith ] in
      ap (page_stale ix limit) (sym is) ∙ tally_zero (page_stale ix limit) (at.block * per) per (none at.block at.first other) at.place small

  -- Not every page outside the spare block stays.
  pub some_stale : Fits blocks per test pages → Found ix per None → Chosen ix limit per blocks None → ⊥
  some_stale fits full none =
      let n = length pages in
      let p : ℕ → Bool = λ k. test (said (get_or pages k [])) in
      let all : (k : ℕ) → k < n → Outside low per k → p k ≡ true = λ k h o.
      sym (stays_said blocks per pages ix link last_birth sound limit k h)
      ∙ must_stay (page_free ix k) (page_stays ix limit k) (full k (let c = sound.counted in omega arith) o) (none_stale none k h o) in
      let li = low_inside in
      let parts = tally_parts p n low per li in
      let a : tally p 0 low ≡ low = tally_all p 0 low (λ k _ l. all k (omega arith) (inl (omega arith))) in
      let b : tally p (low + per) (n - (low + per)) ≡ n - (low + per) = tally_all p (low + per) (n - (low + per)) (λ k l m. all k (omega arith) (inr l)) in
      let count = count_said test pages in
      let w = sound.whole in
      let s = sound.spare_block in
      let one = but_one blocks per (omega arith) in
      omega arith

  pub is_full : Found ix per None → Full per pages ix
  is_full full k h o = elim (cases_Bool (is_erased (get_or pages k []))) [
    | inr f ↦ f
    | inl t ↦ absurd (both_ways (page_free ix k) (full k (let c = sound.counted in omega arith) o) (free_said blocks per pages ix link last_birth sound k h ∙ ap is_nothing (said_erased (get_or pages k []) t)))
  ]

  -- The stale pages of a block, by the records and by the pages.
  pub stale_of_lem : (b : ℕ) → b < blocks → stale_of ix limit per b ≡ stale_in test pages (b * per) per
  stale_of_lem b h =
      let i = block_inside per blocks b (length pages) sound.whole h in
      tally_ext (page_stale ix limit) (λ k. stale test (said (get_or pages k []))) (b * per) per (λ k l m. stale_said blocks per pages ix link last_birth sound k (omega arith) limit)

  spare_is : (i : ℕ) → i < per → said (get_or pages (low + i) []) ≡ nothing
  spare_is = spare_says blocks per pages ix link last_birth sound

  pub spare_none : stale_in test pages low per ≡ 0
  spare_none =
      tally_nil (λ k. stale test (said (get_or pages k []))) low per (λ k l m.
      let e : low + (k - low) ≡ k = omega arith in
      ap (λ j. stale test (said (get_or pages j []))) (sym e) ∙ ap (stale test) (spare_is (k - low) (omega arith)))

  -- No block has more stale pages than the chosen one.
  pub chosen_most : (v : BlockNumber) → Chosen ix limit per blocks (Some v) → (b : ℕ) → b < blocks → stale_in test pages (b * per) per ≤ stale_of ix limit per v.0
  chosen_most v ch b h = elim (cases_eq b ix.spare.0) [
    | inl e ↦ let z = ap (λ x. stale_in test pages (x * per) per) e ∙ spare_none in omega arith
    | inr ne ↦ let z = stale_of_lem b h in let m = ch.3 b h ne in omega arith
  ]

  -- Without a stale page nothing is cleaned.
  pub cleaned_none : Chosen ix limit per blocks None → Cleaned blocks per pages ix link last_birth limit 0 pages ix
  cleaned_none none =
      record {
        sound = sound;
        kept = kept_refl test pages;
        lost = omega arith;
        most = λ b h. elim (cases_eq b ix.spare.0) [
          | inl e ↦ let z = ap (λ x. stale_in test pages (x * per) per) e ∙ spare_none in omega arith
          | inr ne ↦ let z = stale_of_lem b h in let m = none b h ne in omega arith
        ];
        none = λ _. (refl, refl, all);
      }
    where
      all : all_stale test pages ≡ 0
      all =
          let p : ℕ → Bool = λ k. stale test (said (get_or pages k [])) in
          let n = length pages in
          let li = low_inside in
          let parts = tally_parts p n low per li in
          let each : (k : ℕ) → k < n → Outside low per k → p k ≡ false = λ k h o. sym (stale_said blocks per pages ix link last_birth sound k h limit) ∙ none_stale none k h o in
          let a : tally p 0 low ≡ 0 = tally_nil p 0 low (λ k _ l. each k (omega arith) (inl (omega arith))) in
          let b : tally p (low + per) (n - (low + per)) ≡ 0 = tally_nil p (low + per) (n - (low + per)) (λ k l m. each k (omega arith) (inr l)) in
          let c = spare_none in
          let count = count_said (stale test) pages in
          omega arith

  -- A found page is erased.
  pub placed_still : (page : PageNumber) → Found ix per (Some page) → Placed blocks per pages ix link last_birth limit page pages ix
  placed_still page f =
      let c = sound.counted in
      let l = f.0 in
      let inside : page.0 < length pages = omega arith in
      record {
        sound = sound;
        kept = kept_refl test pages;
        inside = inside;
        outside = f.1;
        free = free_erased blocks per pages ix link last_birth sound page.0 inside f.2;
        once = inl (refl, refl);
      }

  module _ (victim : BlockNumber) (ch : Chosen ix limit per blocks (Some victim)) (r : Answer) (pages' : List Page) (ix' : Index) (done : Relocated blocks per pages ix link last_birth limit victim.0 r pages' ix') where
    pub cleaned_one : (n : ℕ) → n ≡ stale_of ix limit per victim.0 → Cleaned blocks per pages ix link last_birth limit n pages' ix'
    cleaned_one n e =
        let of = stale_of_lem victim.0 ch.0 in
        let some_of = ch.2 in
        record {
          sound = done.sound;
          kept = done.kept;
          lost = let z = done.lost in omega arith;
          most = λ b h. let m = chosen_most victim ch b h in omega arith;
          none = λ z. absurd (omega arith);
        }

    pub placed_after : r ≡ Ok tt → Found ix per None → (page : PageNumber) → Found ix' per (Some page) → Placed blocks per pages ix link last_birth limit page pages' ix'
    placed_after ok full page f =
        let c = done.sound.counted in
        let l = f.0 in
        let inside : page.0 < length pages' = omega arith in
        record {
          sound = done.sound;
          kept = done.kept;
          inside = inside;
          outside = f.1;
          free = free_erased blocks per pages' ix' link last_birth done.sound page.0 inside f.2;
          once = inr (is_full full, (victim.0, subst (λ z. Relocated blocks per pages ix link last_birth limit victim.0 z pages' ix') ok done));
        }

    -- Where a stale page was, the new block has an erased one.
    pub some_erased : Found ix' per None → ⊥
    some_erased none =
        let from = victim.0 * per in
        let some_of = tally_some (page_stale ix limit) from per ch.2 in
        let i = some_of.0 in
        let il = some_of.1 in
        let goes : page_stays ix limit (from + i) ≡ false = stale_goes (page_free ix (from + i)) (page_stays ix limit (from + i)) some_of.2 in
        let li = low_inside in
        let out : Outside from per (low + i) = elim (blocks_apart per victim.0 ix.spare.0 ch.1) [ inl a ↦ inr (omega arith) | inr a ↦ inl (omega arith) ] in
        let page : get_or pages' (low + i) [] ≡ get_or pages (low + i) [] =
        done.pages_are (low + i) (omega arith)
        ∙ rw (is_out from per (low + i) out) (ap (λ k. get_or pages k []) (origin_left (page_stays ix limit) from low per i il goes)) in
        let long = done.kept.long in
        let counted = done.sound.counted in
        let free : page_free ix' (low + i) ≡ true = free_said blocks per pages' ix' link last_birth done.sound (low + i) (omega arith) ∙ ap is_nothing (ap said page ∙ spare_is i il) in
        both_ways (page_free ix' (low + i)) (none (low + i) (omega arith) (subst (λ b. Outside (b * per) per (low + i)) (sym done.spare) out)) free
