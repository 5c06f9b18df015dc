-- What a call makes of an open store, by what it makes of the chip's pages and of the memory.
use Rattle.std.proofs.Common.{true, ◌≡◌, ℕ, ◌-◌, List, [], ◌∷◌, Some, refl, ap, ◌∙◌, arith}
use Rattle.std.proofs.lemmas.Bool.{both_ways}
use Rattle.chip.specs.Pages.{Page}
use Rattle.rules.specs.Calls.{Call, freeze, open_slip, Answer, granted, rule}
use Rattle.tables.specs.declared.index.Index.{Index}
use Rattle.calls.specs.Follows.{Tells, Follows, Cleaned, stale_count}
use Rattle.calls.specs.Follows as calls
use Rattle.store.specs.Views.{View}
use Rattle.store.specs.Deeds.{Changes, Asks, Cleans}

same_view : (v w : View) → w.blocks ≡ v.blocks → w.per ≡ v.per → w.pages ≡ v.pages → w.memory ≡ v.memory → w ≡ v
same_view v w b p q m = rw (b, p, q, m) refl

pub asks_at : (c : Call) (blocks per : ℕ) (pages : List Page) (ix : Index) (a : Answer) → Tells c blocks per pages ix a →
    Asks c (record { blocks = blocks; per = per; pages = pages; memory = Some ix }) a
asks_at c blocks per pages ix a tells = record {
  closed = λ e. absurd (both_ways true e refl);
  open? = λ e sound. tells (sound ix refl);
}

module _ (blocks blocks' per : ℕ) (pages pages' : List Page) (ix ix' : Index) (a : Answer) (same : blocks' ≡ blocks) where
  abbrev before : View
  before = record { blocks = blocks; per = per; pages = pages; memory = Some ix }

  abbrev after : View
  after = record { blocks = blocks'; per = per; pages = pages'; memory = Some ix' }

  pub changes_at : (c : Call) → Follows c blocks per pages ix a pages' ix' → Changes c before a after
  changes_at c follows = record {
    closed = λ e. absurd (both_ways true e refl);
    open? = λ e sound. let f = follows (sound ix refl) in record {
      answer = f.answer;
      reads = f.reads;
      refusal = λ n. let r = f.refusal n in same_view before after same refl r.0 (ap Some r.1);
      sound = λ x k. let i : ix' ≡ x = cc in rw (← i, same) f.opened;
      stays_open = refl;
      same_size = record { blocks = same; per = refl };
    };
  }

  lost_is : (d : Cleaned blocks per pages a pages' ix') → d.count ≡ stale_count pages - stale_count pages'
  lost_is d = let l = d.lost in omega arith

  pub cleans_at : calls.Cleans blocks per pages ix a pages' ix' → Cleans before a after
  cleans_at cleans = record {
    closed = λ e. absurd (both_ways true e refl);
    open? = λ e sound. let f = cleans (sound ix refl) in let l = f.lost in record {
      answer = f.answer ∙ ap (λ n. granted (n ∷ []) []) (lost_is f);
      no_more = omega arith;
      some_lost = λ k. f.some_lost (omega arith);
      reads = f.reads;
      sound = λ x k. let i : ix' ≡ x = cc in rw (← i, same) f.opened;
      stays_open = refl;
      same_size = record { blocks = same; per = refl };
    };
  }

-- What `grind` is given at the calls.
pub ruleset calls_at = (asks_at, changes_at, cleans_at)

-- An open answers as a freeze does.
pub opens : (v w : View) (a : Answer) → Changes freeze v a w → Changes open_slip v a w
unfolding rule
opens v w a d = record {
  closed = d.closed;
  open? = λ o s. let f = d.open? o s in record {
    answer = f.answer;
    reads = f.reads;
    refusal = f.refusal;
    sound = f.sound;
    stays_open = f.stays_open;
    same_size = f.same_size;
  };
}
