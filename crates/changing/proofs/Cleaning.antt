-- What making room and cleaning a block leave of an open store.
use Rattle.std.proofs.Common.{◌≡◌, ℕ, ◌+◌, List, Ok, Err, Result, sym, ap, ◌∙◌, inr}
use Rattle.chip.specs.declared.ChipFault.{ChipFault}
use Rattle.chip.specs.declared.PageNumber.{PageNumber}
use Rattle.chip.specs.Pages.{Page}
use Rattle.tables.specs.declared.index.Index.{Index}
use Rattle.moving.specs.Sound.{Sound, staying, lasting}
use Rattle.moving.specs.Kept.{Kept}
use Rattle.room.specs.Choose as room
use Rattle.keeping.specs.Opened.{Opened, link_in, last_birth_in, no_limit}
use Rattle.keeping.specs.Cleaned.{Cleaned}
use Rattle.keeping.proofs.Cleaned.{cleaning_keeps, staying_kept}
use Rattle.keeping.proofs.Stale.{stale_by_record, stale_after}
use Rattle.changing.specs.Changed.{Swept, Sweeps, Readies}

module _ (blocks per : ℕ) (pages : List Page) (ix : Index) (o : Opened blocks per pages ix) (pages' : List Page) (ix' : Index) (lasts : lasting ix' ≡ lasting ix) where
  abbrev link : ℕ → ℕ
  link = link_in pages ix

  abbrev last_birth : ℕ → ℕ
  last_birth = last_birth_in pages ix

  after : Sound blocks per pages' ix' link last_birth → Kept (staying ix link no_limit) pages pages' → Cleaned blocks per pages ix pages' ix'
  after s k = record { kept = staying_kept blocks per pages ix pages' o k; sound = s; lasts = lasts }

  swept : (n : ℕ) → room.Cleaned blocks per pages ix link last_birth no_limit n pages' ix' → Swept blocks per pages n pages' ix'
  swept n c =
      let a = after c.sound c.kept in
      let s = cleaning_keeps blocks per pages ix pages' ix' o a in
      let before = stale_by_record blocks per pages ix pages o (λ x i. inr i) in
      let behind = stale_by_record blocks per pages ix pages' o c.kept.less ∙ sym (stale_after blocks per pages ix pages' ix' o a) in
      record {
        opened = s.opened;
        reads = s.reads;
        lost = sym before ∙ c.lost ∙ ap (λ m. m + n) behind;
        none = λ e. (sym before ∙ (c.none e).2, (c.none e).0);
      }

  pub sweeps : (r : Result ℕ ChipFault) → room.Cleans blocks per pages ix link last_birth no_limit r pages' ix' → Sweeps blocks per pages r pages' ix'
  sweeps (Ok n) c = swept n c
  sweeps (Err fault) c = c

  pub readies : (r : Result PageNumber ChipFault) → room.Makes blocks per pages ix link last_birth no_limit r pages' ix' → Readies blocks per pages r pages' ix'
  readies (Ok page) p =
      let s = cleaning_keeps blocks per pages ix pages' ix' o (after p.sound p.kept) in
      record { opened = s.opened; reads = s.reads; register = s.register; inside = p.inside; outside = p.outside; free = p.free }
  readies (Err fault) p = p
