-- A chip that is formatted, and one that is mounted.
use Rattle.std.proofs.Common.{◌≡◌, ℕ, ◌*◌, ◌≤◌, true, false, ltb, List, length, IfOk, Ok, Err, Result, sym, refl, ap, ◌∙◌}
use Rattle.std.proofs.lemmas.Bool.{ltb-false, and_parts, not-true}
use Rattle.chip.specs.Pages.{Page}
use Rattle.readings.specs.Sayings.{sayings}
use Rattle.readings.specs.Reading.{reading}
use Rattle.readings.specs.Changes.{fresh}
use Rattle.readings.specs.Mount.{plain, mount_verdict, size_fits}
use Rattle.refusals.specs.declared.types.Refusal.{Refusal}
use Rattle.tables.specs.Tells.{Tells}
use Rattle.tables.specs.declared.index.Index.{Index}
use Rattle.mounting.specs.Mounted.{verdict_in}
use Rattle.keeping.specs.Opened.{Opened}
use Rattle.calls.specs.Opening.{Reopened, format_verdict, Fresh}
use Rattle.calls.proofs.Remembered.{clock_reads}

pub two_blocks : (blocks per : ℕ) → size_fits blocks per ≡ true → 2 ≤ blocks
two_blocks blocks per h = ltb-false blocks 2 (not-true _ (and_parts _ _ h).0)

pub few_pages : (blocks per : ℕ) → size_fits blocks per ≡ true → blocks * per ≤ 2048
few_pages blocks per h = ltb-false 2048 (blocks * per) (not-true _ (and_parts _ _ h).1)

pub granted_verdict : (label : List ℕ) (blocks per : ℕ) → size_fits blocks per ≡ true → ltb 32 (length label) ≡ false → plain 0 ≡ format_verdict label blocks per
granted_verdict label blocks per h l = rw (h, l) refl

pub begun : (label text : List ℕ) (blocks per : ℕ) (pages : List Page) (ix : Index) → text ≡ label → Opened blocks per pages ix → reading (sayings pages) ≡ fresh text → Fresh label blocks per pages ix
begun label text blocks per pages ix e o r =
    record {
      opened = o;
      reads = r ∙ ap fresh e;
      clock = sym (clock_reads blocks per pages ix o) ∙ ap (λ z. z.clock) r;
    }

pub reopened : (blocks per : ℕ) (pages : List Page) (r : Result Index Refusal) → length pages ≡ blocks * per → verdict_in r ≡ mount_verdict blocks per pages →
    IfOk r (Tells blocks per pages) → IfOk r (Reopened blocks per pages)
reopened blocks per pages (Ok ix) l v t =
    let o : Opened blocks per pages ix = record { accepted = sym v; whole = l; tells = t } in
    record { opened = o; clock = sym (clock_reads blocks per pages ix o) }
reopened blocks per pages (Err f) l v t = tt
