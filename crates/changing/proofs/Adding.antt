-- One more page of an open store.
use Rattle.std.proofs.Common.{◌≡◌, ℕ, suc, ◌+◌, ◌<◌, ◌≤◌, min, true, List, [], length, get_or, set, Ok, sym, refl, ap, ◌∙◌, subst, arith, length-set}
use Rattle.chip.specs.Pages.{Page, is_erased, program_answer, pages_programmed}
use Rattle.chip.proofs.Ways.{Answer, program_granted}
use Rattle.readings.specs.Versions.{Content, bytes, deleted, Reading, add}
use Rattle.readings.specs.Sorted.{reading_of}
use Rattle.readings.specs.Sayings.{Saying, version, said, sayings}
use Rattle.readings.specs.Reading.{birth_of, clock_of, reading}
use Rattle.readings.specs.Changes.{last_clock}
use Rattle.readings.specs.Mount.{capacity}
use Rattle.tables.specs.Tells.{Tells}
use Rattle.tables.specs.declared.index.Index.{Index}
use Rattle.layout_write.specs.Written.{data_page, deletion_page}
use Rattle.keeping.specs.Opened.{Opened}
use Rattle.keeping.proofs.Accepted.{accepted_is_stored}
use Rattle.keeping.proofs.Added.{added_is_accepted}
use Rattle.noting.specs.Consistent.{Consistent, Free}
use Rattle.noting.specs.Noted.{next_version, VersionAdded}
use Rattle.noting.proofs.Written.{written_says}
use Rattle.changing.specs.Changed.{Changed, Ready, CanChange}

-- What is open is consistent.
pub consistent : (blocks per : ℕ) (pages : List Page) (ix : Index) → Opened blocks per pages ix → Consistent blocks per pages ix
consistent blocks per pages ix o =
    let s = accepted_is_stored blocks per pages o.accepted in
    record { tells = o.tells; told = s.told; lone = s.lone }

pub clock_is : (xs : List Saying) → (reading xs).clock ≡ clock_of xs
unfolding reading reading_of
clock_is xs = refl

pub programmed : (pages : List Page) (p : ℕ) (image : Page) (r : Answer) (after : List Page) → p < length pages → length image ≡ 528 → is_erased (get_or pages p []) ≡ true →
    r ≡ program_answer pages p (length image) → after ≡ pages_programmed pages p image → (r ≡ Ok tt) × (after ≡ set pages p image)
programmed pages p image r after h l e n a =
    let g = program_granted pages p image h l e (set pages p image) refl in
    (n ∙ sym g.0, a ∙ sym g.1)

module _ (blocks per : ℕ) (pages : List Page) (ix : Index) (can : CanChange blocks per pages ix) (k : ℕ) (pages₁ : List Page) (ix₁ : Index) (ready : Ready blocks per pages k pages₁ ix₁) where
  pub same_clock : clock_of (sayings pages₁) ≡ clock_of (sayings pages)
  same_clock = sym (clock_is (sayings pages₁)) ∙ ap (λ (r : Reading). r.clock) ready.reads ∙ clock_is (sayings pages)

  pub is_free : Free per pages₁ ix₁ k
  is_free = record {
    inside = ready.inside;
    erased = ready.free;
    outside = ready.outside;
    in_time = let e = same_clock in let f = clock_is (sayings pages) in let h = can.in_time in omega arith;
  }

  -- The page is programmed, and memory tells what the pages say then.
  pub reopened : (x : Page) (ix₂ : Index) → birth_of (said x) ≡ suc (clock_of (sayings pages₁)) → Tells blocks per (set pages₁ k x) ix₂ → (after : Reading) →
      reading (sayings (set pages₁ k x)) ≡ after → length after.versions ≤ capacity blocks per →
      (r : Answer) → r ≡ Ok tt → (pages₂ : List Page) → pages₂ ≡ set pages₁ k x → Changed blocks per after r pages₂ ix₂
  reopened x ix₂ born tells after reads room r ok pages₂ are =
      record {
        ok = ok;
        opened = subst (λ z. Opened blocks per z ix₂) (sym are) (record {
          accepted = added_is_accepted blocks per pages₁ ix₁ k x ready.opened (record {
            inside = ready.inside;
            free = ready.free;
            outside = ready.outside;
            born = born;
            room = subst (λ (z : Reading). length z.versions ≤ capacity blocks per) (sym reads) room;
          });
          whole = length-set pages₁ k x ∙ ready.opened.whole;
          tells = tells;
        });
        reads = ap (λ z. reading (sayings z)) are ∙ reads;
      }

  module _ (s : ℕ) (c : Content) (x : Page) (says : said x ≡ version (next_version pages s c)) where
    pub says_next : said x ≡ version (next_version pages₁ s c)
    says_next = says ∙ ap (λ n. version (record { sector = s; birth = suc n; content = c })) (sym same_clock)

    pub version_added : (ix₂ : Index) → VersionAdded blocks per pages₁ k x s c ix₂ → length (add (reading (sayings pages)) s c).versions ≤ capacity blocks per →
        (r : Answer) → r ≡ Ok tt → (pages₂ : List Page) → pages₂ ≡ set pages₁ k x → Changed blocks per (add (reading (sayings pages)) s c) r pages₂ ix₂
    version_added ix₂ added room =
        reopened x ix₂ (ap birth_of says_next) added.consistent.tells (add (reading (sayings pages)) s c) (added.reads ∙ ap (λ z. add z s c) ready.reads) room

ticks : (clock b : ℕ) → b ≡ min clock 4294967293 + 1 → clock < last_clock → b ≡ suc clock
ticks clock b e h = omega arith

-- What a written page says.
module _ (blocks per : ℕ) (pages : List Page) (ix : Index) (can : CanChange blocks per pages ix) (b : ℕ) (is : b ≡ min ix.clock 4294967293 + 1) where
  pub next_tick : b ≡ suc ix.clock
  next_tick =
      let e = can.opened.tells.clock in
      let f = clock_is (sayings pages) in
      let h = can.in_time in
      ticks ix.clock b is (omega arith)

  pub born_next : b ≡ suc (clock_of (sayings pages))
  born_next = next_tick ∙ ap suc can.opened.tells.clock

  module _ (s : ℕ) (last : s ≤ 2047) (image : Page) where
    pub data_says : (bs : List ℕ) → length bs ≡ 512 → 1 ≤ b → b ≤ 4294967294 → image ≡ data_page s b bs → said image ≡ version (next_version pages s (bytes bs))
    data_says bs l i j e = ap said e ∙ written_says.data_page_means s b bs last i j l ∙ ap (λ n. version (record { sector = s; birth = n; content = bytes bs })) born_next

    pub deletion_says : 1 ≤ b → b ≤ 4294967294 → image ≡ deletion_page s b → said image ≡ version (next_version pages s deleted)
    deletion_says i j e = ap said e ∙ written_says.deletion s b last i j ∙ ap (λ n. version (record { sector = s; birth = n; content = deleted })) born_next
