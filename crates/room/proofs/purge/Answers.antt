use Rattle.std.proofs.Common.{◌≡◌, ℕ, ◌+◌, ◌*◌, ◌<◌, ◌≤◌, Bool, true, false, [], length, get_or, inl, inr, sym, refl, ap, ◌∙◌, subst, arith}
use Rattle.std.specs.List.{list_any, range_with_len}
use Rattle.std.proofs.lemmas.Bool.{both_ways, cases_Bool}
use Rattle.std.proofs.lemmas.List.Folds.{Any-from_list_any, list_any_at}
use Rattle.std.proofs.lemmas.List.FromFn.{length-range_with_len, get_or-range_with_len}
use Rattle.tables.specs.declared.index.Index.{Index}
use Rattle.readings.specs.Sayings.{said}
use Rattle.moving.specs.Sound.{Sound, LastStay, staying, lasting}
use Rattle.moving.specs.Kept.{Kept}
use Rattle.moving.specs.Moves.{Relocated}
use Rattle.moving.proofs.Copies.{not_both}
use Rattle.moving.proofs.Keeps.{kept_trans, staying_same, last_stay_same}
use Rattle.room.specs.Choose.{is_later, page_later}
use Rattle.room.proofs.Purges.{not_spare, none_here, none_left, none_none}
use Rattle.room.proofs.purge.Goals as goal
use Rattle.room.proofs.purge.Goals.{then-has_later+in_ok-relocate, else-has_later}

abbrev Has : ℕ → Index → ℕ → ℕ → Type 0
Has per ix limit b = (i : ℕ) × (i < per) × (page_later ix limit (b * per + i) ≡ true)

abbrev HasNone : ℕ → Index → ℕ → ℕ → Type 0
HasNone per ix limit b = (i : ℕ) → i < per → page_later ix limit (b * per + i) ≡ false

some_later : (per : ℕ) (ix : Index) (limit b : ℕ) (r : Bool) → r ≡ list_any (page_later ix limit) (range_with_len (b * per) per) → r ≡ true → Has per ix limit b
some_later per ix limit b r e t =
    let a = Any-from_list_any (page_later ix limit) (range_with_len (b * per) per) (sym e ∙ t) in
    let l : a.0 < per = subst (λ n. a.0 < n) (length-range_with_len (b * per) per) a.2 in
    (a.0, l, ap (page_later ix limit) (sym (get_or-range_with_len (b * per) per a.0 a.1 l) ∙ a.3) ∙ a.4)

none_later : (per : ℕ) (ix : Index) (limit b : ℕ) (r : Bool) → r ≡ list_any (page_later ix limit) (range_with_len (b * per) per) → r ≡ false → HasNone per ix limit b
none_later per ix limit b r e t i l = elim (cases_Bool (page_later ix limit (b * per + i))) [
  | inr f ↦ f
  | inl f ↦
      absurd (both_ways r t (e ∙ list_any_at (page_later ix limit) (range_with_len (b * per) per) i 0 (rw (length-range_with_len (b * per) per) l)
      (ap (page_later ix limit) (get_or-range_with_len (b * per) per i 0 l) ∙ f)))
]

pub returns-in_err-relocate-clause-purged : goal.returns-in_err-relocate-clause-purged
returns-in_err-relocate-clause-purged g c =
    let m = g.C.Chip in
    let inv = c.loop-b.invariant in
    let e = c.relocate.ensures in
    let chip = c.loop-b.chip in
    let ix = c.loop-b.ix in
    let b = c.loop-b.b in
    let limit = c.args.limit in
    let here : Has m.per ix limit b = some_later m.per ix limit b c.has_later.result c.has_later.ensures c.if-has_later.true in
    λ link last_birth sound last.
    let turn = inv.3 link last_birth sound last in
    let now-sound : Sound (m.blocks chip) m.per (m.pages chip) ix link last_birth = subst (λ n. Sound n m.per (m.pages chip) ix link last_birth) (sym inv.1) turn.0 in
    let first : b < m.blocks chip = let t = c.loop-b-test.true in let q = inv.1 in omega arith in
    let done = e.done link last_birth now-sound (last_stay_same c.args.ix.now ix link limit inv.2 last_birth last) first
    (not_spare (m.blocks chip) m.per (m.pages chip) ix link last_birth limit now-sound b first here.0 here.1 here.2) in
    absurd (not_both c.relocate.result c.in_err-relocate.field-0.0 c.in_err-relocate.was done.ok)

pub loop-b-preserved : goal.loop-b-preserved
loop-b-preserved g c =
    let m = g.C.Chip in
    let inv = c.loop-b.invariant in
    let chip = c.loop-b.chip in
    let ix = c.loop-b.ix in
    let old = c.args.ix.now in
    let pages = m.pages c.args.chip.now in
    let blocks = m.blocks c.args.chip.now in
    let b = c.loop-b.b in
    let limit = c.args.limit in
    let size = c.size-blocks.ensures in
    let first : b < blocks = let t = c.loop-b-test.true in omega arith in
    let more : b + 1 ≤ c.size-blocks.result = let t = c.loop-b-test.true in omega arith in
    elim c.if-has_later.branch [
      | then-has_later+in_ok-relocate w ↦
          let e = w.relocate.ensures in
          let pages' = m.pages w.relocate.new.chip in
          let ix' = w.relocate.new.ix in
          let here : Has m.per ix limit b = some_later m.per ix limit b c.has_later.result c.has_later.ensures w.if-has_later.true in (
            ap m.kept w.chip-is ∙ e.kept ∙ inv.0,
            ap m.blocks w.chip-is ∙ e.same ∙ inv.1,
            ap lasting w.ix-is ∙ e.lasting ∙ inv.2,
            λ link last_birth sound last.
                let turn = inv.3 link last_birth sound last in
                let done : Relocated blocks m.per (m.pages chip) ix link last_birth limit b w.relocate.result pages' ix' =
                subst (λ n. Sound n m.per (m.pages chip) ix link last_birth → LastStay ix link last_birth limit → b < n → (b ≡ ix.spare.0 → ⊥) → Relocated n m.per (m.pages chip) ix link last_birth limit b w.relocate.result pages' ix') inv.1 (e.done link last_birth)
                turn.0 (last_stay_same old ix link limit inv.2 last_birth last) first
                (not_spare blocks m.per (m.pages chip) ix link last_birth limit turn.0 b first here.0 here.1 here.2) in
                let keeps : Kept (staying old link limit) (m.pages chip) pages' = subst (λ t. Kept t (m.pages chip) pages') (staying_same old ix link limit inv.2) done.kept in
                let none = none_left blocks m.per (m.pages chip) ix link last_birth limit turn.0 b first w.relocate.result pages' ix' done turn.2 in
                let never : ((k : ℕ) → k < length pages → is_later limit (said (get_or pages k [])) ≡ false) → ⊥ = λ all.
                none_none blocks m.per (m.pages chip) ix link last_birth limit turn.0 b first
                (subst (λ z. (k : ℕ) → k < length (m.pages z) → is_later limit (said (get_or (m.pages z) k [])) ≡ false) (sym (turn.3 all).0) all) here.0 here.1 here.2 in
                rw (w.chip-is, w.ix-is) (done.sound, kept_trans (staying old link limit) pages (m.pages chip) pages' turn.1 keeps, none, (λ all. absurd (never all))),
            more,
          )
      | else-has_later w ↦
          let here : HasNone m.per ix limit b = none_later m.per ix limit b c.has_later.result c.has_later.ensures w.if-has_later.false in (
            ap m.kept w.chip-is ∙ inv.0,
            ap m.blocks w.chip-is ∙ inv.1,
            ap lasting w.ix-is ∙ inv.2,
            λ link last_birth sound last.
                let turn = inv.3 link last_birth sound last in
                rw (w.chip-is, w.ix-is) (turn.0, turn.1, none_here blocks m.per (m.pages chip) ix link last_birth limit turn.0 b first here turn.2, turn.3),
            more,
          )
    ]

pub returns-clause-purged : goal.returns-clause-purged
returns-clause-purged g c =
    let m = g.C.Chip in
    let inv = c.loop-b.invariant in
    let chip = c.loop-b.chip in
    let end : c.loop-b.b ≡ m.blocks c.args.chip.now = let t = c.loop-b-test.false in let k = inv.4 in omega arith in
    λ link last_birth sound last.
    let turn = inv.3 link last_birth sound last in
    let all : c.loop-b.b * m.per ≡ length (m.pages chip) = ap (λ b. b * m.per) end ∙ sym turn.0.whole in
    record {
      ok = refl;
      sound = turn.0;
      kept = turn.1;
      none_later = λ k h. turn.2 k (omega arith);
      still = λ none. let s = turn.3 none in (ap m.pages s.0, s.1);
    }
