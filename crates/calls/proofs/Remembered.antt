-- What memory has of the reading of an open store.
use Rattle.std.proofs.Common.{◌≡◌, ℕ, ◌<◌, ◌≤◌, Bool, false, eqb, ltb, List, [], ◌∷◌, reverse, length, Result, sym, refl, ap, ◌∙◌, inl, inr, arith}
use Rattle.chip.specs.Pages.{Page}
use Rattle.limits.specs.Values.{held_of, label_of}
use Rattle.std.proofs.lemmas.List.{length-reverse}
use Rattle.std.proofs.lemmas.Bool.{eqb-false}
use Rattle.readings.specs.Versions.{Content, has, Reading, add}
use Rattle.readings.specs.Sorted.{In, reading_of}
use Rattle.readings.specs.Sayings.{Saying, nothing, version, register, bad, sayings}
use Rattle.readings.specs.Reading.{birth_of, clock_of, latest, held_by, reading}
use Rattle.readings.specs.Changes.{last_clock}
use Rattle.readings.specs.Mount.{capacity}
use Rattle.tables.specs.declared.index.Index.{Index}
use Rattle.keeping.specs.Opened.{Opened}
use Rattle.keeping.specs.Stored.{InLimits}
use Rattle.keeping.proofs.Accepted.{accepted_is_stored}
use Rattle.keeping.proofs.Lists.{any_reverse}
use Rattle.noting.specs.Counting.{needed_after}
use Rattle.noting.proofs.Counted.{after_reads}
use Rattle.changing.specs.Changed.{Changed, CanChange}
use Rattle.changing.proofs.Adding.{consistent}
use Rattle.chip.specs.declared.ChipFault.{ChipFault}
use Rattle.refusals.specs.declared.types.Refusal.{Refusal}
use Rattle.rules.specs.declared.types.Tick.{Tick}
use Rattle.rules.specs.Calls.{Call, granted, become}
use Rattle.rules.specs.Told.{told, tick_value}
use Rattle.calls.specs.Changes.{clock_or}
use Rattle.calls.specs.Follows.{outcome, Followed}
use Rattle.calls.proofs.Exits.{changed_so}

clock_of_lem : (xs : List Saying) → (reading xs).clock ≡ clock_of xs
unfolding reading reading_of
clock_of_lem xs = refl

held_of_lem : (xs : List Saying) → (reading xs).held ≡ held_by xs
unfolding reading reading_of
held_of_lem xs = refl

label_of_lem : (xs : List Saying) → (reading xs).label ≡ (latest xs).label
unfolding reading reading_of
label_of_lem xs = refl

-- Births have a greatest.
births_last : (xs : List Saying) (n : ℕ) → ((x : Saying) → In x xs → birth_of x ≤ n) → clock_of xs ≤ n
unfolding clock_of
births_last [] n h = omega arith
births_last (x ∷ xs) n h = let a = h x (inl refl) in let b = births_last xs n (λ y i. h y (inr i)) in omega arith

born_last : (x : Saying) → InLimits x → birth_of x ≤ last_clock
born_last nothing l = omega arith
born_last (version v) l = l.last
born_last (register r) l = l.last
born_last (bad cause) l = omega arith

below_last : (n : ℕ) → n ≤ last_clock → (n ≡ last_clock → ⊥) → n < last_clock
below_last n h k = omega arith

module _ (blocks per : ℕ) (pages : List Page) (ix : Index) (o : Opened blocks per pages ix) where
  abbrev r : Reading
  r = reading (sayings pages)

  pub clock_reads : r.clock ≡ ix.clock
  clock_reads = clock_of_lem (sayings pages) ∙ sym o.tells.clock

  pub held_reads : r.held ≡ reverse (held_of ix.held)
  held_reads = held_of_lem (sayings pages) ∙ ap reverse (sym o.tells.held)

  pub label_reads : r.label ≡ label_of ix.label
  label_reads = label_of_lem (sayings pages) ∙ sym o.tells.label

  pub has_reads : (n : ℕ) → has n r.held ≡ has n (held_of ix.held)
  has_reads n = ap (has n) held_reads ∙ any_reverse (eqb n) (held_of ix.held)

  -- The clock is at its last, or can rise.
  clock_last : clock_of (sayings pages) ≤ last_clock
  clock_last = births_last (sayings pages) last_clock (λ x i. born_last x ((accepted_is_stored blocks per pages o.accepted).limits x i))

  pub can_change : eqb ix.clock 4294967294 ≡ false → CanChange blocks per pages ix
  can_change h =
      let ne = eqb-false ix.clock 4294967294 h in
      let e = clock_reads in
      let f = clock_of_lem (sayings pages) in
      let l = clock_last in
      record { opened = o; in_time = below_last r.clock (omega arith) (λ z. ne (sym e ∙ z)) }

  pub clock_test : (b : Bool) → eqb ix.clock 4294967294 ≡ b → eqb r.clock last_clock ≡ b
  clock_test b h = ap (λ n. eqb n 4294967294) clock_reads ∙ h

  pub clock_early : eqb ix.clock 4294967294 ≡ false → ix.clock < 4294967294
  clock_early h = let k = (can_change h).in_time in let e = clock_reads in omega arith

  pub held_test : (n : ℕ) (b : Bool) → has n (held_of ix.held) ≡ b → has n r.held ≡ b
  held_test n b h = has_reads n ∙ h

  -- As many numbers are held.
  pub count_reads : length r.held ≡ length (held_of ix.held)
  count_reads = ap length held_reads ∙ length-reverse (held_of ix.held)

  pub count_test : (b : Bool) → ltb (length (held_of ix.held)) 8 ≡ b → ltb (length r.held) 8 ≡ b
  count_test b h = ap (λ n. ltb n 8) count_reads ∙ h

  -- The need after one more version.
  pub room_test : (s n : ℕ) (c : Content) (b : Bool) → n ≡ s → n ≤ 2047 → ltb (capacity blocks per) (needed_after ix n) ≡ b →
      ltb (capacity blocks per) (length (add r s c).versions) ≡ b
  room_test s n c b e l h =
      ap (λ k. ltb (capacity blocks per) (length (add r k c).versions)) (sym e) ∙
      ap (ltb (capacity blocks per)) (sym (after_reads blocks per pages ix (consistent blocks per pages ix o) n (omega arith) c)) ∙ h

-- A change that was made, and is answered by the clock.
pub changed_by : (c : Call) (blocks per : ℕ) (pages : List Page) (ix : Index) (after : Reading) (made : Result (Unit {0}) ChipFault) (res : Result Tick Refusal) (pages' : List Page) (ix' : Index) →
    outcome c blocks per pages ≡ become (capacity blocks per) c (reading (sayings pages)) after → Changed blocks per after made pages' ix' → res ≡ clock_or made ix'.clock →
    Followed c blocks per pages ix (told tick_value [] res) pages' ix'
changed_by c blocks per pages ix after made res pages' ix' r m e =
    let clock = sym (clock_reads blocks per pages' ix' m.opened) ∙ ap (λ (z : Reading). z.clock) m.reads in
    changed_so c blocks per pages ix after (told tick_value [] res) pages' ix' r
    (ap (told tick_value []) (e ∙ ap (λ z. clock_or z ix'.clock) m.ok) ∙ ap (λ n. granted (n ∷ []) []) clock) m.reads m.opened
