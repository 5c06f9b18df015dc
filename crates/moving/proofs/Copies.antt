-- One more page of a block is copied.
use Rattle.std.proofs.Common.{◌≡◌, ℕ, ◌+◌, ◌<◌, Bool, true, false, eqb, List, [], length, get_or, set, Ok, Err, sym, refl, ap, ◌∙◌, inl, inr, arith, length-set}
use Rattle.std.proofs.lemmas.List.{get_or-set_same, get_or-set_other}
use Rattle.std.proofs.lemmas.Bool.{cases_eq, both_ways, eq-eqb, cond_both, eqb-true}
use Rattle.chip.specs.declared.ChipFault.{ChipFault}
use Rattle.chip.specs.Pages.{Page, is_erased}
use Rattle.tables.specs.declared.index.Index.{Index}
use Rattle.tables.specs.declared.types.Record.{Record}
use Rattle.tables.specs.Records.{unused}
use Rattle.moving.specs.Sound.{page_stays}
use Rattle.moving.specs.Moves.{Answer, redirected, Movable, Moved, origin, shifted, Copyable, Copied}
use Rattle.moving.proofs.Places.{in_or_out, origin_out, origin_copied, origin_left, origin_more, shifted_more, shifted_here, shifted_in, shifted_out}
use Rattle.moving.proofs.Says.{shown_stays, sector_of}

-- What was granted was not refused.
pub not_both : (r : Answer) (e : ChipFault) → r ≡ Err e → r ≡ Ok tt → ⊥
not_both r e p q = let z : ◌≡◌ {A = ℕ} 0 1 = cc in omega arith

-- One more, of pages and of records alike.
module _ {A : Type 0} (d : A) (stay : ℕ → Bool) (from to i : ℕ) (xs ys : List A) (are : (k : ℕ) → get_or ys k d ≡ get_or xs (origin stay from to i k) d) where
  pub list_left : stay (from + i) ≡ false → (k : ℕ) → get_or ys k d ≡ get_or xs (origin stay from to (i + 1) k) d
  list_left t k = elim (cases_eq k (to + i)) [
    | inr ne ↦ are k ∙ ap (λ j. get_or xs j d) (sym (origin_more stay from to i k ne))
    | inl e ↦
        are k ∙ ap (λ j. get_or xs (origin stay from to i j) d) e
        ∙ ap (λ j. get_or xs j d) (origin_out stay from to i (to + i) (inr (omega arith)) ∙ sym (origin_left stay from to (i + 1) i (omega arith) t) ∙ ap (origin stay from to (i + 1)) (sym e))
  ]

  pub list_more : stay (from + i) ≡ true → to + i < length ys → get_or ys (from + i) d ≡ get_or xs (from + i) d →
      (k : ℕ) → get_or (set ys (to + i) (get_or ys (from + i) d)) k d ≡ get_or xs (origin stay from to (i + 1) k) d
  list_more t l there k = elim (cases_eq k (to + i)) [
    | inr ne ↦ get_or-set_other ys (to + i) k (get_or ys (from + i) d) d ne ∙ are k ∙ ap (λ j. get_or xs j d) (sym (origin_more stay from to i k ne))
    | inl e ↦
        ap (λ j. get_or (set ys (to + i) (get_or ys (from + i) d)) j d) e ∙ get_or-set_same ys (to + i) (get_or ys (from + i) d) d l ∙ there
        ∙ ap (λ j. get_or xs j d) (sym (origin_copied stay from to (i + 1) i (omega arith) t) ∙ ap (origin stay from to (i + 1)) (sym e))
  ]

-- A redirected map.
module _ (map : List ℕ) (t from to s : ℕ) where
  pub redirected_here : s < length map → t ≡ s → get_or map s 0 ≡ from → get_or (redirected map t from to) s 0 ≡ to
  redirected_here h e f = rw (e, f, eq-eqb from from refl) (get_or-set_same map s to 0 h)

  pub redirected_other : (get_or map s 0 ≡ from → ⊥) → get_or (redirected map t from to) s 0 ≡ get_or map s 0
  redirected_other ne =
      cond_both (eqb (get_or map t 0) from) (set map t to) map (λ z. get_or z s 0 ≡ get_or map s 0)
      (λ b. get_or-set_other map t s to 0 (λ e. ne (ap (λ j. get_or map j 0) e ∙ eqb-true (get_or map t 0) from b))) (λ _. refl)

module _ (blocks per : ℕ) (pages : List Page) (ix : Index) (link last_birth : ℕ → ℕ) (limit from to : ℕ) (c : Copyable blocks per pages ix link last_birth limit from to)
    (i : ℕ) (h : i < per) (pages' : List Page) (ix' : Index) (d : Copied (page_stays ix limit) from to i pages ix pages' ix') where
  abbrev stay : ℕ → Bool
  stay = page_stays ix limit

  there : origin stay from to i (from + i) ≡ from + i
  there = origin_out stay from to i (from + i) (elim c.apart [ inl a ↦ inl (omega arith) | inr a ↦ inr (omega arith) ])

  pub page_there : get_or pages' (from + i) [] ≡ get_or pages (from + i) []
  page_there = d.pages_are (from + i) ∙ ap (λ j. get_or pages j []) there

  pub record_there : get_or ix'.records (from + i) unused ≡ get_or ix.records (from + i) unused
  record_there = d.records_are (from + i) ∙ ap (λ j. get_or ix.records j unused) there

  pub movable : Movable pages' (from + i) (to + i)
  movable =
      let n = d.long in
      let a = c.source in
      let b = c.target in
      record {
        source = omega arith;
        target = omega arith;
        free = ap is_erased (d.pages_are (to + i) ∙ ap (λ j. get_or pages j []) (origin_out stay from to i (to + i) (inr (omega arith)))) ∙ c.free i h;
      }

  pub copied_left : stay (from + i) ≡ false → Copied stay from to (i + 1) pages ix pages' ix'
  copied_left t =
      record {
        long = d.long;
        pages_are = list_left [] stay from to i pages pages' d.pages_are t;
        records_are = list_left unused stay from to i ix.records ix'.records d.records_are t;
        map_is = λ s l. d.map_is s l ∙ sym (shifted_more from to i (get_or ix.map s 0) (λ e. unmoved s l t e));
      }
    where
      unmoved : (s : ℕ) → s < 2048 → stay (from + i) ≡ false → get_or ix.map s 0 ≡ from + i → ⊥
      unmoved s l t e =
          let a = c.source in
          both_ways (stay (from + i)) t (ap stay (sym e) ∙ shown_stays blocks per pages ix link last_birth c.sound s l (omega arith) limit c.last_stay)

  -- The map, where page from + i has moved.
  map_more : (s : ℕ) → s < 2048 → get_or (redirected ix'.map (get_or ix'.records (from + i) unused).sector (from + i) (to + i)) s 0 ≡ shifted from to (i + 1) (get_or ix.map s 0)
  map_more s l = elim (cases_eq (get_or ix.map s 0) (from + i)) [
    | inl e ↦
        let a = c.source in
        let of : (get_or ix'.records (from + i) unused).sector ≡ s =
        ap (λ (r : Record). r.sector) record_there ∙ ap (λ k. (get_or ix.records k unused).sector) (sym e) ∙ sector_of blocks per pages ix link last_birth c.sound s l (omega arith) in
        let before : get_or ix'.map s 0 ≡ from + i = d.map_is s l ∙ ap (shifted from to i) e ∙ shifted_out from to i (from + i) (inr (omega arith)) in
        redirected_here ix'.map _ (from + i) (to + i) s (omega (arith, ix'.wide)) of before ∙ sym (ap (shifted from to (i + 1)) e ∙ shifted_here from to i)
    | inr ne ↦
        redirected_other ix'.map _ (from + i) (to + i) s (λ e. stood s l ne (sym (d.map_is s l) ∙ e)) ∙ d.map_is s l ∙ sym (shifted_more from to i (get_or ix.map s 0) ne)
  ]
    where
      stood : (s : ℕ) → s < 2048 → (get_or ix.map s 0 ≡ from + i → ⊥) → shifted from to i (get_or ix.map s 0) ≡ from + i → ⊥
      stood s l ne e =
          let m = get_or ix.map s 0 in
          elim (in_or_out from i m) [
            | inl x ↦
                let a = x.1 in
                let f : to + x.0 ≡ from + i = sym (ap (shifted from to i) x.2 ∙ shifted_in from to i x.0 a) ∙ e in
                elim c.apart [ inl b ↦ omega arith | inr b ↦ omega arith ]
            | inr o ↦ ne (sym (shifted_out from to i m o) ∙ e)
          ]

  pub copied_more : stay (from + i) ≡ true → (r : Answer) (pages'' : List Page) (ix'' : Index) → Moved pages' ix' (from + i) (to + i) r pages'' ix'' → Copied stay from to (i + 1) pages ix pages'' ix''
  copied_more t r pages'' ix'' m =
      let a = c.target in
      let n = d.long in
      let fits = c.sound.fits in
      record {
        long = ap length m.pages_are ∙ length-set pages' (to + i) (get_or pages' (from + i) []) ∙ d.long;
        pages_are = λ k. ap (λ z. get_or z k []) m.pages_are ∙ list_more [] stay from to i pages pages' d.pages_are t (omega arith) page_there k;
        records_are = λ k. ap (λ z. get_or z k unused) m.records_are ∙ list_more unused stay from to i ix.records ix'.records d.records_are t (omega (arith, ix'.long)) record_there k;
        map_is = λ s l. ap (λ z. get_or z s 0) m.map_is ∙ map_more s l;
      }
