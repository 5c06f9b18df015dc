-- What a cut at a held number leaves.
use Rattle.std.proofs.Common.{◌≡◌, ℕ, suc, ◌≤◌, Bool, ◌&&◌, ltb, leb, List, reverse, sym, refl, ap, ◌∙◌, inl, inr, arith}
use Rattle.std.proofs.lemmas.Bool.{and_parts, and_from, leb-true, le-leb, ltb-true}
use Rattle.chip.specs.Pages.{Page}
use Rattle.limits.specs.Values.{held_of, label_of}
use Rattle.readings.specs.Versions.{Version, keep, has, needed, leave}
use Rattle.readings.specs.Sorted.{In, sort, reading_of, Apart, Enough}
use Rattle.readings.specs.Sayings.{Saying, version, sayings}
use Rattle.readings.specs.Reading.{birth_of, versions, clock_of, latest, held_by, reading}
use Rattle.readings.specs.Links.{stays_by, Among, Cuts}
use Rattle.readings.proofs.Lists.{has_keep}
use Rattle.readings.proofs.Sorted.{in_keep, keep_in}
use Rattle.readings.proofs.PageLaws.{pages_read}
use Rattle.tables.specs.declared.index.Index.{Index}
use Rattle.keeping.specs.Opened.{Opened, link_in}
use Rattle.keeping.specs.Cut.{Cuttable, held_left, CutIsNeed, Cut, CutGoesOn, next_register, Registers, CutReads, RevertReads, BackReads}
use Rattle.keeping.proofs.Links.{stays_is_need}
use Rattle.keeping.proofs.Lists.{keep_reverse, needed_reverse}
use Rattle.keeping.proofs.Opened.{stored, linked_in, has_held}
use Rattle.keeping.proofs.Reading.{in_versions, versions_in, apart_told, clock_above, version_less}
use Rattle.keeping.proofs.Registers.{reading_next}

module _ (blocks per : ℕ) (pages : List Page) (ix : Index) (n : ℕ) (left : ℕ → Bool) (o : Opened blocks per pages ix) (c : Cuttable ix n left) where
  abbrev xs : List Saying
  xs = sayings pages

  abbrev vs : List Version
  vs = versions xs

  abbrev early : Version → Bool
  early w = leb w.birth n

  apart : Apart vs
  apart = apart_told xs (stored blocks per pages ix o).told

  pub cut_need : (v : Version) → In v vs → stays_by (held_left ix left) n v.birth (link_in pages ix v.birth) ≡ (leb v.birth n && needed (held_left ix left) (sort (keep early vs)) v)
  cut_need v i = stays_is_need (held_by xs) (held_left ix left) n vs v (link_in pages ix v.birth) apart i (linked_in blocks per pages ix o v i) among cuts
    where
      among : Among (held_left ix left) n (held_by xs)
      among h j =
          let r = and_parts (has h (held_of ix.held)) (left h) (sym (has_keep left (held_of ix.held) h) ∙ j) in
          (has_held blocks per pages ix o h r.0, c.none_above h r.1)

      cuts : Cuts n (held_by xs) vs
      cuts w j l = has_held blocks per pages ix o n c.is_held

  -- The numbers that are left, youngest first.
  pub left_reverse : reverse (held_left ix left) ≡ keep left (held_by xs)
  left_reverse = sym (keep_reverse left (held_of ix.held)) ∙ ap (λ h. keep left (reverse h)) o.tells.held

  pub need_left : (l : List Version) (v : Version) → needed (held_left ix left) l v ≡ needed (keep left (held_by xs)) l v
  need_left l v = sym (needed_reverse (held_left ix left) l v) ∙ ap (λ h. needed h l v) left_reverse

  pub apart_early : Apart (keep early vs)
  apart_early x y i j e = apart x y (in_keep early vs x i).0 (in_keep early vs y j).0 e

  module _ (pages' : List Page) (cut : Cut pages ix n left pages') where
    abbrev ys : List Saying
    ys = sayings pages'

    pub from_before : (v : Version) → In v (versions ys) → In v vs
    from_before = version_less xs ys cut.kept.less

    pub old : (x : Saying) → In x ys → birth_of x ≤ ix.clock
    old x i =
        let e = o.tells.clock in
        elim (cut.kept.less x i) [ inl f ↦ let q = ap birth_of f in omega arith | inr j ↦ let q = clock_above xs x j in omega arith ]

    pub enough_early : Enough (keep left (held_by xs)) (keep early vs) (versions ys)
    enough_early = (
      λ v i. keep_in early vs v (from_before v i) (le-leb v.birth n (cut.none_later v i)),
      λ v i t.
          let r = in_keep early vs v i in
          let need = and_from (leb v.birth n) (needed (held_left ix left) (sort (keep early vs)) v) r.1 (need_left (sort (keep early vs)) v ∙ t) in
          versions_in ys v (cut.kept.holds (version v) (in_versions xs v r.0) (cut_need v r.0 ∙ need)),
    )

    -- The versions that are left read as those of a cut.
    pub cut_reading : reading_of (latest xs).label (suc (clock_of xs)) (keep left (held_by xs)) (versions ys) ≡ leave left (λ b. leb b n) (reading xs)
    unfolding reading
    cut_reading =
        pages_read.suffice (latest xs).label (suc (clock_of xs)) (keep left (held_by xs)) (keep early vs) (versions ys) apart_early enough_early
        ∙ pages_read.cut (latest xs).label (clock_of xs) (held_by xs) vs n left apart (has_held blocks per pages ix o n c.is_held) c.none_above

    module _ (pages'' : List Page) (w : Registers pages' (next_register ix (held_left ix left)) pages'') where
      reads : reading (sayings pages'') ≡ leave left (λ b. leb b n) (reading xs)
      reads =
          reading_next pages' (next_register ix (held_left ix left)) pages'' w ix.clock old refl
          ∙ ap (λ h. reading_of (label_of ix.label) (suc ix.clock) h (versions ys)) left_reverse
          ∙ ap (λ l. reading_of l (suc ix.clock) (keep left (held_by xs)) (versions ys)) o.tells.label
          ∙ ap (λ k. reading_of (latest xs).label (suc k) (keep left (held_by xs)) (versions ys)) o.tells.clock
          ∙ cut_reading

pub cut_is_need : CutIsNeed
cut_is_need blocks per pages ix n left o c = cut_need blocks per pages ix n left o c

pub cut_goes_on : CutGoesOn
cut_goes_on pages ix n left pages' pages'' cut kept =
    record {
      kept = record {
        long = kept.long ∙ cut.kept.long;
        less = λ x i. elim (kept.less x i) [ inl e ↦ inl e | inr j ↦ cut.kept.less x j ];
        holds = λ x i t. kept.holds x (cut.kept.holds x i t) t;
      };
      none_later = λ v i. cut.none_later v (version_less (sayings pages') (sayings pages'') kept.less v i);
    }

pub cut_reads : CutReads
cut_reads blocks per pages ix n left pages' pages'' o c cut w = reads blocks per pages ix n left o c pages' cut pages'' w

pub revert_reads : RevertReads
revert_reads blocks per pages ix n pages' pages'' o h cut w =
    cut_reads blocks per pages ix n (λ m. leb m n) pages' pages'' o (record { is_held = h; none_above = λ m t. leb-true m n t }) cut w

pub back_reads : BackReads
back_reads blocks per pages ix n pages' pages'' o h cut w =
    cut_reads blocks per pages ix n (λ m. ltb m n) pages' pages'' o (record { is_held = h; none_above = λ m t. let q = ltb-true m n t in omega arith }) cut w
