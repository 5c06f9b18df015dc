-- One more register of an open store.
use Rattle.std.proofs.Common.{◌≡◌, ℕ, suc, ◌+◌, ◌≤◌, min, Bool, true, false, cond, not, eqb, List, [], ◌∷◌, ◌++◌, length, set, Some, None, Ok, Option, sym, ap, ◌∙◌, arith}
use Rattle.std.proofs.lemmas.List.{length-take-le}
use Rattle.chip.specs.Pages.{Page}
use Rattle.chip.proofs.Ways.{Answer}
use Rattle.limits.specs.declared.types.Register as limits
use Rattle.limits.specs.Numbers.{rising}
use Rattle.limits.specs.Values.{held_of, label_of, RegisterValues, register_values, register_from}
use Rattle.layout_write.specs.Written.{register_page}
use Rattle.readings.specs.Versions.{Reading, Version, keep, needed, settle, leave}
use Rattle.readings.specs.Sayings.{Register, register, said, sayings}
use Rattle.readings.specs.Reading.{birth_of, clock_of, latest, reading}
use Rattle.readings.specs.Changes.{frozen, released}
use Rattle.readings.specs.Mount.{capacity}
use Rattle.tables.specs.Tells.{Tells}
use Rattle.tables.specs.declared.index.Index.{Index}
use Rattle.keeping.specs.Stored.{Stored}
use Rattle.keeping.proofs.Accepted.{accepted_is_stored}
use Rattle.keeping.proofs.Lists.{keep_short}
use Rattle.keeping.proofs.Opened.{latest_limits}
use Rattle.keeping.proofs.Reading.{clock_above}
use Rattle.noting.specs.Holding.{without}
use Rattle.noting.specs.Noted.{next_register, Holdable, RegisterAdded}
use Rattle.noting.proofs.Holding.{rising_push, rising_keep}
use Rattle.noting.proofs.Register.{holdable_frozen, holdable_released}
use Rattle.noting.proofs.Written.{written_says}
use Rattle.changing.specs.Changed.{Changed, Ready, CanChange, Registered}
use Rattle.changing.proofs.Adding.{same_clock, reopened, born_next}

-- What is left needs no more room.
left_short : (h p : ℕ → Bool) (r : Reading) → length (leave h p r).versions ≤ length r.versions
unfolding settle
left_short h p r =
    let vs = keep (λ (v : Version). p v.birth) r.versions in
    let a = keep_short (needed (keep h r.held) vs) vs in
    let b = keep_short (λ (v : Version). p v.birth) r.versions in
    omega arith

module _ (blocks per : ℕ) (pages : List Page) (ix : Index) (can : CanChange blocks per pages ix) where
  stored : Stored blocks per pages
  stored = accepted_is_stored blocks per pages can.opened.accepted

  -- The held numbers rise, to the register's birth at most.
  module _ (held : List ℕ) where
    abbrev top : ℕ
    top = (latest (sayings pages)).birth

    known : rising 0 top (held_of ix.held) ≡ true
    known = ap (rising 0 top) can.opened.tells.held ∙ (latest_limits blocks per pages ix can.opened).known

    early : top ≤ ix.clock
    early = let a = clock_above (sayings pages) (register (latest (sayings pages))) stored.told.begun in let e = can.opened.tells.clock in omega arith

    pub frozen_rises : held ≡ held_of ix.held ++ (suc ix.clock ∷ []) → rising 0 (suc ix.clock) held ≡ true
    frozen_rises e =
        let a = early in
        ap (rising 0 (suc ix.clock)) e ∙ rising_push 0 top (suc ix.clock) (held_of ix.held) known (omega arith) (omega arith)

    pub kept_rises : (p : ℕ → Bool) → held ≡ keep p (held_of ix.held) → rising 0 (suc ix.clock) held ≡ true
    kept_rises p e =
        let a = early in
        ap (rising 0 (suc ix.clock)) e ∙ rising_keep p 0 0 top (suc ix.clock) (held_of ix.held) known (omega arith) (omega arith)

    pub released_rises : (n : ℕ) → held ≡ without n (held_of ix.held) → rising 0 (suc ix.clock) held ≡ true
    released_rises n e = kept_rises (λ m. not (eqb m n)) e

  module _ (k : ℕ) (pages₁ : List Page) (ix₁ : Index) (ready : Ready blocks per pages k pages₁ ix₁) (held : List ℕ) (x : Page) (says : said x ≡ register (next_register pages held)) where
    clock_same : clock_of (sayings pages₁) ≡ clock_of (sayings pages)
    clock_same = same_clock blocks per pages ix can k pages₁ ix₁ ready

    pub says_register : said x ≡ register (next_register pages₁ held)
    says_register =
        says ∙ ap (λ n. register (record { birth = suc n; held = held; label = (latest (sayings pages)).label })) (sym clock_same)
        ∙ ap (λ (r : Register). register (record { birth = suc (clock_of (sayings pages₁)); held = held; label = r.label })) (sym ready.register)

    held_same : held_of ix.held ≡ (latest (sayings pages₁)).held
    held_same = can.opened.tells.held ∙ ap (λ (r : Register). r.held) (sym ready.register)

    next_same : suc ix.clock ≡ suc (clock_of (sayings pages₁))
    next_same = ap suc (can.opened.tells.clock ∙ sym clock_same)

    pub registered : (ix₂ : Index) → (Holdable pages₁ held → RegisterAdded blocks per pages₁ k x held ix₂) →
        (r : Answer) → r ≡ Ok tt → (pages₂ : List Page) → pages₂ ≡ set pages₁ k x → Registered blocks per pages ix held r pages₂ ix₂
    registered ix₂ add r ok pages₂ are =
        record {
          freezes = λ e.
              let f : held ≡ (latest (sayings pages₁)).held ++ (suc (clock_of (sayings pages₁)) ∷ []) = e ∙ ap (λ hs. hs ++ (suc ix.clock ∷ [])) held_same ∙ ap (λ n. (latest (sayings pages₁)).held ++ (n ∷ [])) next_same in
              let a = add (holdable_frozen pages₁ held f) in
              back (frozen (reading (sayings pages))) a.consistent.tells (a.freezes f ∙ ap frozen ready.reads) stored.room;
          releases = λ n e.
              let f : held ≡ without n (latest (sayings pages₁)).held = e ∙ ap (without n) held_same in
              let a = add (holdable_released pages₁ n held f) in
              let short = left_short (λ m. not (eqb m n)) (λ b. true) (reading (sayings pages)) in
              let room = stored.room in
              back (released n (reading (sayings pages))) a.consistent.tells (a.releases n f ∙ ap (released n) ready.reads) (omega arith);
        }
      where
        back : (after : Reading) → Tells blocks per (set pages₁ k x) ix₂ → reading (sayings (set pages₁ k x)) ≡ after → length after.versions ≤ capacity blocks per → Changed blocks per after r pages₂ ix₂
        back after tells reads room = reopened blocks per pages ix can k pages₁ ix₁ ready x ix₂ (ap birth_of says_register) tells after reads room r ok pages₂ are

-- A register that was made has the values that were given.
made : (t : Bool) (x y : RegisterValues) → ◌≡◌ {A = Option RegisterValues} (Some x) (cond t (Some y) None) → x ≡ y
made true x y e = cc
made false x y e = absurd (let z : ◌≡◌ {A = ℕ} 0 1 = cc in omega arith)

pub not_made : (b : ℕ) (held label : List ℕ) → rising 0 b held ≡ true → ◌≡◌ {A = Option RegisterValues} None (register_from b held label) → ⊥
not_made b held label r e = go (rising 0 b held) r e
  where
    go : (t : Bool) → t ≡ true → ◌≡◌ {A = Option RegisterValues} None (cond t (Some (record { birth = b; held = held; label = label })) None) → ⊥
    go true r e = let z : ◌≡◌ {A = ℕ} 0 1 = cc in omega arith
    go false r e = let z : ◌≡◌ {A = ℕ} 0 1 = cc in omega arith

abbrev valued : (v : RegisterValues) → Register
valued v = record { birth = v.birth; held = v.held; label = v.label }

pub register_says : (r : limits.Register) (b : ℕ) (held label : List ℕ) (image : Page) → ◌≡◌ {A = Option RegisterValues} (Some (register_values r)) (register_from b held label) →
    image ≡ register_page r.birth.number (held_of r.held) (label_of r.label) → said image ≡ register (record { birth = b; held = held; label = label })
register_says r b held label image is e =
    let few = length-take-le r.held.len r.held.items (omega (arith, r.held.room, r.held.few)) in
    let short = length-take-le r.label.len r.label.items (omega (arith, r.label.room, r.label.few)) in
    ap said e
    ∙ written_says.register_page_means r.birth.number (held_of r.held) (label_of r.label) r.birth.first r.birth.last (omega (arith, few, r.held.few)) r.known (omega (arith, short, r.label.few))
    ∙ ap (λ v. register (valued v)) (made (rising 0 b held) (register_values r) (record { birth = b; held = held; label = label }) is)

pub register_next : (blocks per : ℕ) (pages : List Page) (ix : Index) (can : CanChange blocks per pages ix) (b : ℕ) → b ≡ min ix.clock 4294967293 + 1 → (held : List ℕ) (image : Page) →
    said image ≡ register (record { birth = b; held = held; label = label_of ix.label }) → said image ≡ register (next_register pages held)
register_next blocks per pages ix can b is held image e =
    e ∙ ap (λ n. register (record { birth = n; held = held; label = label_of ix.label })) (born_next blocks per pages ix can b is)
    ∙ ap (λ l. register (record { birth = suc (clock_of (sayings pages)); held = held; label = l })) can.opened.tells.label
