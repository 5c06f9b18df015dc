-- Cleaning leaves a store open as before, with the same reading.
use Rattle.std.proofs.Common.{◌≡◌, ℕ, ◌<◌, ◌≤◌, ltb, List, [], reverse, length, get_or, sym, ap, ◌∙◌, subst, inl, inr, arith}
use Rattle.std.proofs.lemmas.Bool.{cases_eq, lt-ltb, le-ltb}
use Rattle.chip.specs.Pages.{Page}
use Rattle.limits.specs.Values.{held_of, label_of}
use Rattle.readings.specs.Versions.{Version, Reading}
use Rattle.readings.specs.Sorted.{In, Enough}
use Rattle.readings.specs.Sayings.{Register, Saying, version, bad, said, sayings}
use Rattle.readings.specs.Reading.{versions, clock_of, latest, held_by, reading, must, Told}
use Rattle.readings.specs.Links.{Linked}
use Rattle.readings.specs.Mount.{capacity}
use Rattle.tables.specs.Records.{unused}
use Rattle.tables.specs.Tells.{HasLast, Mapped, Tells}
use Rattle.tables.specs.declared.index.Index.{Index}
use Rattle.moving.specs.Sound.{Lasting}
use Rattle.keeping.specs.Stored.{InLimits, Stored}
use Rattle.keeping.specs.Opened.{Opened, link_in, last_birth_in}
use Rattle.keeping.specs.Cleaned.{Cleaned, Same, CleaningKeeps, StayingKept}
use Rattle.keeping.proofs.Accepted.{stored_is_accepted}
use Rattle.keeping.proofs.Blocks.{block_erased}
use Rattle.keeping.proofs.Limits.{said_limits}
use Rattle.keeping.proofs.Links.{when_of_true, when_of_false, linked_left}
use Rattle.keeping.proofs.Lists.{says_at, at_says}
use Rattle.keeping.proofs.Opened.{stored, linked_in, has_last, last_birth_lem, no_last, unborn_outside, born_inside, staying_is_must}
use Rattle.keeping.proofs.Reading.{apart_told, versions_in, enough, same_latest, same_clock, must_suffices, must_stays}

pub all_within : (pages : List Page) (x : Saying) → In x (sayings pages) → InLimits x
all_within pages x i = let r = says_at pages x i in subst InLimits r.2 (said_limits (get_or pages r.0 []))

module _ (blocks per : ℕ) (pages : List Page) (ix : Index) (pages' : List Page) (ix' : Index) (o : Opened blocks per pages ix) (c : Cleaned blocks per pages ix pages' ix') where
  abbrev xs : List Saying
  xs = sayings pages

  abbrev ys : List Saying
  ys = sayings pages'

  before : Stored blocks per pages
  before = stored blocks per pages ix o

  latest_is : latest ys ≡ latest xs
  latest_is = same_latest xs ys before.told c.kept.less c.kept.holds

  clock_is : clock_of ys ≡ clock_of xs
  clock_is = same_clock xs ys before.told c.kept.less c.kept.holds

  reading_is : reading ys ≡ reading xs
  reading_is = must_suffices xs ys before.told c.kept.less c.kept.holds

  still : Told ys × ((x : Saying) → must ys x ≡ must xs x)
  still = must_stays xs ys before.told c.kept.less c.kept.holds

  left : Enough (held_by xs) (versions xs) (versions ys)
  left = enough xs ys before.told c.kept.less c.kept.holds

  linked : (k : ℕ) (v : Version) → k < length pages' → said (get_or pages' k []) ≡ version v → Linked (held_by ys) (versions ys) v (get_or ix'.records k unused).link
  linked k v h e =
      let i = left.0 v (versions_in ys v (at_says pages' (version v) k h e)) in
      let l = linked_left (held_by xs) (versions xs) (versions ys) (apart_told xs before.told) left v (link_in pages ix v.birth) (linked_in blocks per pages ix o v i) in
      subst (λ t. Linked (held_by ys) (versions ys) v t) (sym (c.sound.links k v h e))
      (subst (λ (r : Register). Linked (reverse r.held) (versions ys) v (link_in pages ix v.birth)) (sym latest_is) l)

  abbrev None : ℕ → Type 0
  None s = (w : Version) → In w (versions ys) → w.sector ≡ s → ⊥

  mapped : (s : ℕ) → s < 2048 → Mapped pages' s (get_or ix'.map s 0)
  mapped s h = let m = get_or ix'.map s 0 in elim (cases_eq (last_birth_in pages ix s) 0) [
    | inl z ↦
        when_of_false (ltb m (length pages')) (HasLast pages' s m) (None s) (le-ltb m (length pages') (c.sound.unmapped s h z))
        (λ w i e. no_last blocks per pages ix o s h (unborn_outside blocks per pages ix o s h z) w (left.0 w i) e)
    | inr nz ↦
        let p : 0 < last_birth_in pages ix s = omega arith in
        let shows = c.sound.mapped s h p in
        let inside = born_inside blocks per pages ix o s h p in
        let first = has_last blocks per pages ix o s h inside in
        let b = shows.born ∙ last_birth_lem blocks per pages ix o s h inside in
        when_of_true (ltb m (length pages')) (HasLast pages' s m) (None s) (lt-ltb m (length pages') shows.inside)
        (record {
          last = shows.shown;
          stands = shows.says;
          of_sector = shows.of_sector;
          youngest = λ w i e. let q = first.youngest w (left.0 w i) (e ∙ shows.of_sector ∙ sym first.of_sector) in omega arith;
        })
  ]

  tells : Tells blocks per pages' ix'
  tells =
      record {
        counted = c.sound.counted;
        agree = c.sound.agree;
        linked = linked;
        mapped = mapped;
        clock = ap (λ (l : Lasting). l.clock) c.lasts ∙ o.tells.clock ∙ sym clock_is;
        newest = ap (λ (l : Lasting). l.newest) c.lasts ∙ o.tells.newest ∙ ap (λ (r : Register). r.birth) (sym latest_is);
        held = ap (λ (l : Lasting). held_of l.held) c.lasts ∙ o.tells.held ∙ ap (λ (r : Register). r.held) (sym latest_is);
        label = ap (λ (l : Lasting). label_of l.label) c.lasts ∙ o.tells.label ∙ ap (λ (r : Register). r.label) (sym latest_is);
        spare_block = c.sound.spare_block;
        spare_erased = c.sound.spare_erased;
      }

  after : Stored blocks per pages'
  after =
      record {
        told = still.0;
        none_bad = λ cause i. elim (c.kept.less (bad cause) i) [ inl e ↦ let z : ◌≡◌ {A = ℕ} 0 1 = cc in omega arith | inr j ↦ before.none_bad cause j ];
        limits = all_within pages';
        lone = c.sound.lone;
        two_blocks = before.two_blocks;
        small = before.small;
        has_erased_block = block_erased per blocks ix'.spare.0 pages' c.sound.spare_block c.sound.spare_erased;
        room = subst (λ (r : Reading). length r.versions ≤ capacity blocks per) (sym reading_is) before.room;
      }

  same : Same blocks per pages pages' ix'
  same =
      record {
        reads = reading_is;
        register = latest_is;
        needs = still.1;
        opened = record { accepted = stored_is_accepted blocks per pages' after; whole = c.kept.long ∙ o.whole; tells = tells };
      }

pub cleaning_keeps : CleaningKeeps
cleaning_keeps blocks per pages ix pages' ix' o c = same blocks per pages ix pages' ix' o c

pub staying_kept : StayingKept
staying_kept blocks per pages ix pages' o k =
    record { long = k.long; less = k.less; holds = λ x i t. k.holds x i (staying_is_must blocks per pages ix o x i ∙ t) }
