-- A pile of slips, as the list of their numbers.
use Rattle.std.proofs.Common.{◌≡◌, ℕ, suc, ◌+◌, ◌<◌, ◌≤◌, true, false, not, cond, ◌||◌, eqb, List, [], ◌∷◌, length, get_or, position, Some, None, sym, refl, ap, ◌∙◌, arith, eq-eqb, eqb-true}
use Rattle.std.proofs.lemmas.Bool.Decides.{nat_tests}
use Rattle.std.proofs.lemmas.List.Quantifiers.{position-Some}
use Rattle.std.specs.List.{remove, position_or_len}
use Rattle.readings.specs.Versions.{any, has}
use Rattle.store.specs.declared.slips.Slip.{Slip}
use Rattle.session.specs.Slips.{without, slip_number, slip_numbers, numbered, Took}

module _ (n : ℕ) where
  abbrev first : List Slip → ℕ
  first ss = position_or_len (numbered n) ss

  first_there : (ss : List Slip) → first ss < length ss → (has n (slip_numbers ss) ≡ true) × (slip_numbers (remove ss (first ss)) ≡ without n (slip_numbers ss))
  first_there [] l = absurd (omega arith)
  first_there (s ∷ ss) l =
      elim (eqb n (slip_number s)) as (λ b. cond (not b) (1 + first ss) 0 < suc (length ss) → ((b || any (eqb n) (slip_numbers ss)) ≡ true) × (slip_numbers (remove (s ∷ ss) (cond (not b) (1 + first ss) 0)) ≡ cond b (slip_numbers ss) (slip_number s ∷ without n (slip_numbers ss)))) [
        | true ↦ λ h. (refl, refl)
        | false ↦ λ h.
            let r = first_there ss (omega arith) in
            let next : 1 + first ss ≡ suc (first ss) = omega arith in
            (r.0, rw next (ap (λ ns. slip_number s ∷ ns) r.1))
      ] l

  not_there : (ss : List Slip) → length ss ≤ first ss → has n (slip_numbers ss) ≡ false
  not_there [] l = refl
  not_there (s ∷ ss) l =
      elim (eqb n (slip_number s)) as (λ b. suc (length ss) ≤ cond (not b) (1 + first ss) 0 → (b || any (eqb n) (slip_numbers ss)) ≡ false) [
        | true ↦ λ h. absurd (omega arith)
        | false ↦ λ h. not_there ss (omega arith)
      ] l

  pub none_found : (ss : List Slip) → position (numbered n) ss ≡ None → has n (slip_numbers ss) ≡ false
  none_found ss is = not_there ss (grind (arith, nat_tests))

  found : (ss : List Slip) (i : ℕ) → position (numbered n) ss ≡ Some i → (i ≡ first ss) × (i < length ss)
  found ss i is = (grind (arith, nat_tests), grind (arith, nat_tests))

  pub took : (ss rest : List Slip) (i : ℕ) (slip : Slip) → position (numbered n) ss ≡ Some i → slip ≡ get_or ss i slip → rest ≡ remove ss i → Took n ss slip rest
  took ss rest i slip is value removed =
      let f = found ss i is in
      let h = first_there ss (omega (arith, f)) in
      record {
        has_it = h.0;
        is_it = ap slip_number value ∙ sym (eqb-true n (slip_number (get_or ss i slip)) (position-Some (numbered n) ss i slip is).1);
        leaves = ap slip_numbers (removed ∙ ap (remove ss) f.0) ∙ h.1;
      }

-- The slip at the top of a pile.
pub took_first : (s : Slip) (ss : List Slip) → Took (slip_number s) (s ∷ ss) s ss
took_first s ss =
    let n = slip_number s in
    let same = eq-eqb n n refl in
    record {
      has_it = ap (λ b. b || any (eqb n) (slip_numbers ss)) same;
      is_it = refl;
      leaves = ap (λ b. cond b (slip_numbers ss) (n ∷ without n (slip_numbers ss))) (sym same);
    }
