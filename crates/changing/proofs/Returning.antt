-- The store after it went back to a held number.
use Rattle.std.proofs.Common.{◌≡◌, ℕ, suc, ◌+◌, ◌<◌, min, Bool, true, cond, ltb, leb, List, [], length, get_or, set, Ok, Err, Result, sym, refl, ap, ◌∙◌, subst, inl, inr, arith}
use Rattle.std.proofs.lemmas.Bool.{lt-ltb, leb-true, ltb-true}
use Rattle.chip.proofs.Ways.{Answer}
use Rattle.chip.specs.declared.ChipFault.{ChipFault}
use Rattle.chip.specs.declared.PageNumber.{PageNumber}
use Rattle.chip.specs.Pages.{Page, is_erased}
use Rattle.limits.specs.declared.types.Bounded.{Bounded}
use Rattle.limits.specs.Values.{held_of, label_of}
use Rattle.readings.specs.Versions.{Reading, has}
use Rattle.readings.specs.Sayings.{Register, register, said, sayings}
use Rattle.readings.specs.Reading.{birth_of, reading}
use Rattle.tables.specs.declared.index.Index.{Index}
use Rattle.tables.specs.Records.{unused, Rest, rest_of}
use Rattle.moving.specs.Sound.{Sound, Lasting, lasting}
use Rattle.keeping.specs.Opened.{link_in}
use Rattle.keeping.specs.Cut.{Cuttable, held_left, next_register, Registers}
use Rattle.keeping.specs.Reopened.{cut_link, Restarted}
use Rattle.keeping.proofs.Cut.{revert_reads, back_reads}
use Rattle.keeping.proofs.Lists.{at_says}
use Rattle.keeping.proofs.Reading.{clock_above}
use Rattle.keeping.proofs.Reopened.{cut_reopens}
use Rattle.noting.specs.Noted.{Memory, memory_of, ticked, register_record, register_rest, register_noted}
use Rattle.noting.proofs.Version.{ticks}
use Rattle.changing.specs.Changed.{Changed, CanChange, next_birth}
use Rattle.changing.specs.Back.{unlinked, cut_lasting, CutDown, CutsTo, WentBack, WasCut, CutResult}
use Rattle.changing.proofs.Adding.{clock_is, next_tick}
use Rattle.changing.proofs.Restarting.{sound_after}

pub cuttable_revert : (ix : Index) (n : ℕ) → has n (held_of ix.held) ≡ true → Cuttable ix n (λ m. leb m n)
cuttable_revert ix n h = record { is_held = h; none_above = λ m t. leb-true m n t }

pub cuttable_back : (ix : Index) (n : ℕ) → has n (held_of ix.held) ≡ true → Cuttable ix n (λ m. ltb m n)
cuttable_back ix n h = record { is_held = h; none_above = λ m t. let l = ltb-true m n t in omega arith }

module _ (blocks per : ℕ) (pages : List Page) (ix : Index) (n : ℕ) (can : CanChange blocks per pages ix) (held : Bounded ℕ 8) (k : ℕ) (pages₃ : List Page) (ix₃ : Index)
    (lasts : lasting ix₃ ≡ cut_lasting ix held) (x : Page) (says : said x ≡ register (record { birth = suc ix.clock; held = held_of held; label = label_of ix.label }))
    (ix₄ : Index) (noted : memory_of ix₄ ≡ register_noted ix₃ k held) (ix₅ : Index)
    (records₅ : (j : ℕ) → j < 2048 → get_or ix₅.records j unused ≡ unlinked n (get_or ix₄.records j unused)) (map₅ : ix₅.map ≡ ix₄.map) (spare₅ : ix₅.spare ≡ ix₄.spare)
    (lasts₅ : lasting ix₅ ≡ lasting ix₄) (pages₄ : List Page) where
  module _ (left : ℕ → Bool) (cuttable : Cuttable ix n left) (are : held_of held ≡ held_left ix left) (down : CutDown blocks per pages ix n left k pages₃ ix₃) (are₄ : pages₄ ≡ set pages₃ k x) where
    abbrev next : Register
    next = next_register ix (held_left ix left)

    says_next : said x ≡ register next
    says_next = says ∙ ap (λ hs. register (record { birth = suc ix.clock; held = hs; label = label_of ix.label })) are

    ticked₃ : ticked ix₃.clock ≡ suc ix.clock
    ticked₃ =
        let e = can.opened.tells.clock in
        let f = clock_is (sayings pages) in
        let h = can.in_time in
        ticks ix₃.clock ix.clock (ap (λ (l : Lasting). l.clock) lasts) (omega arith)

    memory₄ : memory_of ix₄ ≡ record { records = set ix₃.records k (register_record (ticked ix₃.clock)); rest = register_rest ix₃ k held }
    memory₄ =
        noted ∙ ap (λ t. cond t (record { records = set ix₃.records k (register_record (ticked ix₃.clock)); rest = register_rest ix₃ k held }) (memory_of ix₃))
        (lt-ltb k ix₃.pages (omega (arith, down.inside, down.sound.counted)))

    rest₄ : rest_of ix₄ ≡ register_rest ix₃ k held
    rest₄ = ap (λ (m : Memory). m.rest) memory₄

    younger : (j : ℕ) → j < length pages₃ → birth_of (said (get_or pages₃ j [])) < suc ix.clock
    younger j h =
        let y = said (get_or pages₃ j []) in
        elim (down.cut.kept.less y (at_says pages₃ y j h refl)) [
          | inl e ↦ let q = ap birth_of e in omega arith
          | inr i ↦ let q = clock_above (sayings pages) y i in let t = can.opened.tells.clock in omega arith
        ]

    sound₅ : Sound blocks per (set pages₃ k x) ix₅ (λ b. cut_link n (link_in pages ix b)) down.last_birth
    sound₅ =
        sound_after blocks per pages₃ ix₃ (link_in pages ix) down.last_birth down.sound k down.inside down.outside down.free x next says_next younger n ix₅
        (λ j h. records₅ j h ∙ ap (λ rs. unlinked n (get_or rs j unused)) (ap (λ (m : Memory). m.records) memory₄ ∙ ap (λ t. set ix₃.records k (register_record t)) ticked₃))
        (ap (λ (l : Lasting). l.pages) lasts₅ ∙ ap (λ (r : Rest). r.pages) rest₄) (map₅ ∙ ap (λ (r : Rest). r.map) rest₄) (spare₅ ∙ ap (λ (r : Rest). r.spare) rest₄)

    restarted : Restarted blocks per pages ix n left down.last_birth pages₄ ix₅
    restarted = record {
      sound = subst (λ z. Sound blocks per z ix₅ (λ b. cut_link n (link_in pages ix b)) down.last_birth) (sym are₄) sound₅;
      clock = ap (λ (l : Lasting). l.clock) lasts₅ ∙ ap (λ (r : Rest). r.clock) rest₄ ∙ ticked₃;
      newest = ap (λ (l : Lasting). l.newest) lasts₅ ∙ ap (λ (r : Rest). r.newest) rest₄ ∙ ticked₃;
      held = ap (λ (l : Lasting). held_of l.held) lasts₅ ∙ ap (λ (r : Rest). held_of r.held) rest₄ ∙ are;
      label = ap (λ (l : Lasting). label_of l.label) lasts₅ ∙ ap (λ (r : Rest). label_of r.label) rest₄ ∙ ap (λ (l : Lasting). label_of l.label) lasts;
    }

    registers : Registers pages₃ next pages₄
    registers = record { place = k; page = x; inside = down.inside; free = down.free; says = says_next; pages_are = are₄ }

    changed : (after : Reading) → reading (sayings pages₄) ≡ after → Changed blocks per after (Ok tt) pages₄ ix₅
    changed after reads = record {
      ok = refl;
      opened = cut_reopens blocks per pages ix n left down.last_birth pages₃ pages₄ ix₅ can.opened cuttable down.lasts down.cut registers restarted;
      reads = reads;
    }

  pub went_back_lem : has n (held_of ix.held) ≡ true →
      ((left : ℕ → Bool) → Cuttable ix n left → held_of held ≡ held_left ix left → CutDown blocks per pages ix n left k pages₃ ix₃) →
      (k < length pages₃ → is_erased (get_or pages₃ k []) ≡ true → pages₄ ≡ set pages₃ k x) → WentBack blocks per pages ix n (held_of held) (Ok tt) pages₄ ix₅
  went_back_lem h downs done = record {
    reverts = λ are.
        let c = cuttable_revert ix n h in
        let down = downs (λ m. leb m n) c are in
        let e = done down.inside down.free in
        changed (λ m. leb m n) c are down e _ (revert_reads blocks per pages ix n pages₃ pages₄ can.opened h down.cut (registers (λ m. leb m n) c are down e));
    backs = λ are.
        let c = cuttable_back ix n h in
        let down = downs (λ m. ltb m n) c are in
        let e = done down.inside down.free in
        changed (λ m. ltb m n) c are down e _ (back_reads blocks per pages ix n pages₃ pages₄ can.opened h down.cut (registers (λ m. ltb m n) c are down e));
  }

-- The next birth is the same after a cut.
pub after_cut : (blocks per : ℕ) (pages : List Page) (ix : Index) (n : ℕ) (held : Bounded ℕ 8) (k : ℕ) (pages' : List Page) (ix' : Index) → WasCut blocks per pages ix n held k pages' ix' → next_birth ix' ≡ suc ix.clock
after_cut blocks per pages ix n held k pages' ix' was = next_tick blocks per pages ix was.can (next_birth ix') (ap (λ (l : Lasting). min l.clock 4294967293 + 1) was.lasts)

-- A way that is not taken.
pub never_back : (blocks per : ℕ) (pages : List Page) (ix : Index) (n : ℕ) (held : List ℕ) (r : Answer) (pages' : List Page) (ix' : Index) → has n (held_of ix.held) ≡ true →
    ((left : ℕ → Bool) → Cuttable ix n left → held ≡ held_left ix left → ⊥) → WentBack blocks per pages ix n held r pages' ix'
never_back blocks per pages ix n held r pages' ix' h never = record {
  reverts = λ are. absurd (never (λ m. leb m n) (cuttable_revert ix n h) are);
  backs = λ are. absurd (never (λ m. ltb m n) (cuttable_back ix n h) are);
}

-- What a cut leaves, by its answer.
pub cut_result : (blocks per : ℕ) (pages : List Page) (ix : Index) (n : ℕ) (held : Bounded ℕ 8) (r : Result PageNumber ChipFault) (pages' : List Page) (ix' : Index) →
    CanChange blocks per pages ix → has n (held_of ix.held) ≡ true → lasting ix' ≡ cut_lasting ix held →
    ((left : ℕ → Bool) → Cuttable ix n left → held_of held ≡ held_left ix left → CutsTo blocks per pages ix n left r pages' ix') → CutResult blocks per pages ix n held r pages' ix'
cut_result blocks per pages ix n held (Ok page) pages' ix' can h lasts cuts = record { can = can; was_held = h; lasts = lasts; cut = cuts }
cut_result blocks per pages ix n held (Err fault) pages' ix' can h lasts cuts = never_back blocks per pages ix n (held_of held) (Err fault) pages' ix' h cuts
