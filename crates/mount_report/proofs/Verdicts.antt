-- What a mount answers, and the text for it.
use Rattle.std.proofs.Common.{◌≡◌, ℕ, Bool, true, false, cond, eqb, List, [], ◌∷◌, get_or, Ok, Err, sym, refl, ap, ◌∙◌, arith}
use Rattle.std.proofs.lemmas.Bool.{eqb-false}
use Rattle.readings.specs.Sayings.{sayings}
use Rattle.readings.specs.Reading.{reading}
use Rattle.readings.specs.Mount.{capacity, mount_verdict}
use Rattle.refusals.specs.Numbers.{verdict_of}
use Rattle.refusals.specs.declared.types.Refusal.{Refusal}
use Rattle.rules.specs.Calls.{Answer, granted}
use Rattle.rules.specs.Told.{refused_by, told, tick_value}
use Rattle.rules.specs.declared.types.Tick.{Tick}
use Rattle.store.specs.Views.{View, is_open, reading_of, capacity_of}
use Rattle.store.specs.Deeds.{refused_with, Mounts}
use Rattle.mount_report.specs.Lines.{Ready, opened_text, refusal_line, mount_text}
use Rattle.mount_report.proofs.Granted.{some_number}

-- By a verdict's number n: `b` says whether it is 0.
module _ (b : Bool) (clock n : ℕ) (values : List ℕ) where
  answered_clock : (t : ℕ) → b ≡ eqb n 0 → granted (t ∷ []) [] ≡ cond b (granted (clock ∷ []) []) (refused_with n values) → (t ≡ clock) × (b ≡ true)
  answered_clock t = go b
    where
      go : (b : Bool) → b ≡ eqb n 0 → granted (t ∷ []) [] ≡ cond b (granted (clock ∷ []) []) (refused_with n values) → (t ≡ clock) × (b ≡ true)
      go true is e = (ap (λ (a : Answer). get_or a.values 0 0) e, refl)
      go false is e = absurd (eqb-false n 0 (sym is) (sym (ap (λ (a : Answer). a.number) e)))

refused_line : (b : Bool) (clock n : ℕ) (values opened : List ℕ) (f : Refusal) → refused_by f [] ≡ cond b (granted (clock ∷ []) []) (refused_with n values) →
    refusal_line (verdict_of f).number (verdict_of f).values ≡ cond b opened (refusal_line n values)
refused_line true clock n values opened f e = absurd (some_number f (ap (λ (a : Answer). a.number) e))
refused_line false clock n values opened f e = ap (λ (a : Answer). refusal_line a.number a.values) e

module _ (v w : View) where
  pub refused_text : (f : Refusal) → Mounts v (told tick_value [] (Err f)) w → is_open v ≡ false →
      refusal_line (verdict_of f).number (verdict_of f).values ≡ mount_text v.blocks v.per v.pages
  refused_text f mounts closed =
      let verdict = mount_verdict v.blocks v.per v.pages in
      refused_line (eqb verdict.number 0) (reading_of v).clock verdict.number verdict.values (opened_text (capacity_of v) (reading_of v)) f (mounts.closed closed)

  module _ (t : Tick) (mounts : Mounts v (told tick_value [] (Ok t)) w) where
    pub opened_ready : Ready w
    opened_ready = record { opens = (mounts.granted refl).opens; sound = (mounts.granted refl).sound }

    -- Mount is granted on a closed store only.
    was_closed : is_open v ≡ false
    was_closed = go (is_open v) refl
      where
        go : (b : Bool) → is_open v ≡ b → is_open v ≡ false
        go true is = let e = ap (λ (a : Answer). a.number) (mounts.open? is).0 in absurd (omega arith)
        go false is = is

    answered : (t.0 ≡ (reading_of v).clock) × (eqb (mount_verdict v.blocks v.per v.pages).number 0 ≡ true)
    answered =
        let verdict = mount_verdict v.blocks v.per v.pages in
        answered_clock (eqb verdict.number 0) (reading_of v).clock verdict.number verdict.values t.0 refl (mounts.closed was_closed)

    pub opened_clock : t.0 ≡ (reading_of w).clock
    opened_clock = answered.0 ∙ ap (λ pages. (reading (sayings pages)).clock) (sym (mounts.granted refl).same_chip.pages)

    pub opened_text_lem : opened_text (capacity_of w) (reading_of w) ≡ mount_text v.blocks v.per v.pages
    opened_text_lem =
        let same = (mounts.granted refl).same_chip in
        let verdict = mount_verdict v.blocks v.per v.pages in
        ap (λ n. opened_text (capacity n w.per) (reading_of w)) same.same_size.blocks
        ∙ ap (λ n. opened_text (capacity v.blocks n) (reading_of w)) same.same_size.per
        ∙ ap (λ pages. opened_text (capacity_of v) (reading (sayings pages))) same.pages
        ∙ ap (λ b. cond b (opened_text (capacity_of v) (reading_of v)) (refusal_line verdict.number verdict.values)) (sym answered.1)
