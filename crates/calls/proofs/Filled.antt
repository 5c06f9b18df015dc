-- A buffer that is filled with a list of memory, as the call's answer.
use Rattle.std.proofs.Common.{◌≡◌, ℕ, true, false, eqb, List, [], ◌∷◌, length, Ok, Err, MatchResult, Result, sym, ap, ◌∙◌}
use Rattle.chip.specs.Pages.{Page}
use Rattle.limits.specs.declared.types.Bounded.{Bounded}
use Rattle.limits.specs.Values.{items_of}
use Rattle.readings.specs.Sayings.{sayings}
use Rattle.readings.specs.Reading.{reading}
use Rattle.readings.specs.Mount.{capacity}
use Rattle.refusals.specs.declared.types.Refusal.{Refusal}
use Rattle.refusals.specs.declared.types.Refusal.TheVariants.{BufferLength}
use Rattle.rules.specs.Calls.{Call, Answer, Outcome, refused, granted, refuse, tell, filled}
use Rattle.rules.specs.Told.{refused_by, told, size_value}
use Rattle.calls.specs.Follows.{outcome}
use Rattle.calls.specs.Holds.{Listed}
use Rattle.calls.proofs.Exits.{answer_told}

module _ {most : ℕ} (given : Bounded ℕ most) (c : Call) (blocks per : ℕ) (pages : List Page) (old buffer : List ℕ) (a : Answer) where
  pub listed_told : (r : Result ℕ Refusal) → MatchResult r (λ n. Listed given 0 old n buffer) (λ f. (f ≡ BufferLength) × (eqb (length old) most ≡ false) × (buffer ≡ old)) →
      refused_by BufferLength old ≡ refused 8 c → granted (length (items_of given) ∷ []) (filled most (items_of given)) ≡ a →
      (eqb (length old) most ≡ false → outcome c blocks per pages ≡ refuse (capacity blocks per) c (reading (sayings pages)) 8) →
      (eqb (length old) most ≡ true → outcome c blocks per pages ≡ tell (capacity blocks per) c (reading (sayings pages)) a) →
      told size_value buffer r ≡ (outcome c blocks per pages).answer
  listed_told (Ok n) m k e short fits = answer_told c blocks per pages _ _ ((λ i. granted (m.long i ∷ []) (m.lists i)) ∙ e) (fits m.fits)
  listed_told (Err f) m k e short fits = (λ i. refused_by (m.0 i) (m.2 i)) ∙ k ∙ ap (λ (z : Outcome). z.answer) (sym (short m.1))
