-- Every history of a store is a run by the rules of the calls.
use Rattle.std.proofs.Common.{◌≡◌, ℕ, Bool, true, false, cond, eqb, List, [], ◌∷◌, MatchBool, Some, None, Option, sym, refl, ap, ◌∙◌, subst}
use Rattle.std.proofs.lemmas.Bool.{both_ways}
use Rattle.std.specs.Option.{is_some}
use Rattle.readings.specs.Sayings.{sayings}
use Rattle.readings.specs.Reading.{reading}
use Rattle.readings.specs.Mount.{Verdict, mount_verdict, capacity}
use Rattle.tables.specs.Tells.{Accepted}
use Rattle.tables.specs.declared.index.Index.{Index}
use Rattle.rules.specs.Calls.{Call, mount, close, count, clean, freeze, open_slip, write, delete, read, look, since, since_in, ask_held, ask_label, release, revert, keep_slip, back_slip, Answer, refused, granted, rule}
use Rattle.line.specs.Line.{Event, is_granted, effect_of, opens}
use Rattle.line.specs.Runs.{State, cleans, Step, StepOpen, StepClosed, Run}
use Rattle.line.proofs.Judge.{every_run_lawful}
use Rattle.line.proofs.Reverting.{revert_equation}
use Rattle.store.specs.Views.{View, is_open, reading_of, capacity_of, Sound, SameSize}
use Rattle.store.specs.Deeds.{Follows, Changes, Asks, Cleans, SameChip, Closes, mount_answer, Mounts, Does, refused_with}
use Rattle.history.specs.History.{History, EveryHistoryIsLawful, EveryRevertIsTheEquation}
use Rattle.history.proofs.Queries.{count_leaves, read_leaves, look_leaves, since_leaves, since_in_leaves, held_leaves, label_leaves}

abbrev state_of : View → State
state_of v = record { open? = is_open v; reading = reading_of v }

abbrev event : Call → Answer → Event
event c a = record { call = c; answer = a }

-- Mount accepts the chip, and a store that is open is sound.
pub record Good (v : View) : Type 0 where
  pub accepted : Accepted v.blocks v.per v.pages
  pub sound : Sound v

-- An open store that is sound is on a chip that mount accepts.
good_open : (v : View) → is_open v ≡ true → Sound v → Good v
good_open v o sound = record { accepted = go v.memory refl o; sound = sound }
  where
    go : (m : Option Index) → v.memory ≡ m → is_some m ≡ true → Accepted v.blocks v.per v.pages
    go None is e = absurd (both_ways false refl e)
    go (Some ix) is e = (sound ix is).accepted

closed_sound : (v : View) → is_open v ≡ false → Sound v
closed_sound v c ix is = absurd (both_ways (is_open v) c (ap is_some is))

same_capacity : (v w : View) → SameSize v w → capacity_of w ≡ capacity_of v
same_capacity v w s = ap (λ b. capacity b w.per) s.blocks ∙ ap (λ p. capacity v.blocks p) s.per

cond_same : {A : Type 0} (b : Bool) (x : A) → cond b x x ≡ x
cond_same true x = refl
cond_same false x = refl

when_not : (b : Bool) (P Q : Type 0) → b ≡ false → Q → MatchBool b P Q
when_not b P Q e q = subst (λ z. MatchBool z P Q) (sym e) q

-- One call: a step of a run, a store that is good again, and the same capacity.
pub record Stepped (c : Call) (a : Answer) (v w : View) : Type 0 where
  pub step : Step (capacity_of v) (is_open v) (state_of v) (event c a) (state_of w)
  pub good : Good w
  pub same : capacity_of w ≡ capacity_of v

-- A step on an open store, and one on a closed store.
module _ (c : Call) (a : Answer) (v w : View) where
  by_open : is_open v ≡ true → StepOpen (capacity_of v) (state_of v) (event c a) (state_of w) → Step (capacity_of v) (is_open v) (state_of v) (event c a) (state_of w)
  by_open e s = subst (λ b. Step (capacity_of v) b (state_of v) (event c a) (state_of w)) (sym e) s

  by_closed : is_open v ≡ false → StepClosed (state_of v) (event c a) (state_of w) → Step (capacity_of v) (is_open v) (state_of v) (event c a) (state_of w)
  by_closed e s = subst (λ b. Step (capacity_of v) b (state_of v) (event c a) (state_of w)) (sym e) s

  -- A refusal with 2, after which nothing is changed.
  refused_closed : Good v → is_open v ≡ false → opens (effect_of c) false ≡ false → a ≡ refused 2 c → w ≡ v → Stepped c a v w
  refused_closed g o k e s =
      subst (λ z. Stepped c a v z) (sym s)
      (record {
        step = subst (λ b. Step (capacity_of v) b (state_of v) (event c a) (state_of v)) (sym o)
            (record { answer = e ∙ rw k refl; reading = refl; is_open_after = o ∙ sym k });
        good = g;
        same = refl;
      })

  follows_stepped : Good v → is_open v ≡ true → cleans (effect_of c) ≡ false → opens (effect_of c) true ≡ true → Follows c v a w → Stepped c a v w
  follows_stepped g o k l f =
      record {
        step = by_open o
            (record {
              answer = when_not _ _ _ k f.answer;
              reading = f.reads;
              is_open_after = f.stays_open ∙ sym (ap (λ b. cond (is_granted (event c a)) b true) l ∙ cond_same (is_granted (event c a)) true);
            });
        good = good_open w f.stays_open f.sound;
        same = same_capacity v w f.same_size;
      }

  changes_stepped : Good v → cleans (effect_of c) ≡ false → opens (effect_of c) true ≡ true → opens (effect_of c) false ≡ false → Changes c v a w → Stepped c a v w
  changes_stepped g k l n d = go (is_open v) refl
    where
      go : (b : Bool) → is_open v ≡ b → Stepped c a v w
      go true o = follows_stepped g o k l (d.open? o g.sound)
      go false o = let r = d.closed o in refused_closed g o n r.0 r.1

  asks_stepped : Good v → cleans (effect_of c) ≡ false → opens (effect_of c) true ≡ true → opens (effect_of c) false ≡ false →
      (rule (capacity_of v) c (reading_of v)).left ≡ reading_of v → Asks c v a → w ≡ v → Stepped c a v w
  asks_stepped g k l n left d s = go (is_open v) refl
    where
      go : (b : Bool) → is_open v ≡ b → Stepped c a v w
      go true o =
          subst (λ z. Stepped c a v z) (sym s)
          (record {
            step = subst (λ b. Step (capacity_of v) b (state_of v) (event c a) (state_of v)) (sym o)
                (record {
                  answer = when_not _ _ _ k (d.open? o g.sound);
                  reading = sym left;
                  is_open_after = o ∙ sym (ap (λ b. cond (is_granted (event c a)) b true) l ∙ cond_same (is_granted (event c a)) true);
                });
            good = g;
            same = refl;
          })
      go false o = refused_closed g o n (d.closed o) s

module _ (a : Answer) (v w : View) (g : Good v) where
  cleans_stepped : Cleans v a w → Stepped clean a v w
  unfolding rule
  cleans_stepped d = go (is_open v) refl
    where
      go : (b : Bool) → is_open v ≡ b → Stepped clean a v w
      go true o =
          let f = d.open? o g.sound in
          record {
            step = by_open clean a v w o
                (record {
                  answer = ap (λ (z : Answer). z.number) f.answer;
                  reading = f.reads;
                  is_open_after = f.stays_open ∙ sym (cond_same (is_granted (event clean a)) true);
                });
            good = good_open w f.stays_open f.sound;
            same = same_capacity v w f.same_size;
          }
      go false o = let r = d.closed o in refused_closed clean a v w g o refl r.0 r.1

  same_verdict : SameChip v w → Accepted w.blocks w.per w.pages
  same_verdict s =
      ap (λ b. mount_verdict b w.per w.pages) s.same_size.blocks ∙ ap (λ p. mount_verdict v.blocks p w.pages) s.same_size.per
      ∙ ap (mount_verdict v.blocks v.per) s.pages ∙ g.accepted

  closes_stepped : Closes v a w → Stepped close a v w
  unfolding rule
  closes_stepped d = go (is_open v) refl
    where
      go : (b : Bool) → is_open v ≡ b → Stepped close a v w
      go true o =
          let f = d.open? o in
          record {
            step = by_open close a v w o
                (record {
                  answer = f.0;
                  reading = ap (λ ps. reading (sayings ps)) f.1.pages;
                  is_open_after = f.2 ∙ sym (ap (λ (z : Answer). cond (is_granted (event close z)) false true) f.0);
                });
            good = record { accepted = same_verdict f.1; sound = closed_sound w f.2 };
            same = same_capacity v w f.1.same_size;
          }
      go false o = let r = d.closed o in refused_closed close a v w g o refl r.0 r.1

  -- Mount is granted on a closed store.
  mounts_granted : a ≡ mount_answer v → a ≡ granted ((reading_of v).clock ∷ []) []
  mounts_granted e =
      e ∙ ap (λ (z : Verdict). cond (eqb z.number 0) (granted ((reading_of v).clock ∷ []) []) (refused_with z.number z.values)) g.accepted

  mounts_stepped : Mounts v a w → Stepped mount a v w
  unfolding rule
  mounts_stepped d = go (is_open v) refl
    where
      go : (b : Bool) → is_open v ≡ b → Stepped mount a v w
      go true o =
          let r = d.open? o in
          subst (λ z. Stepped mount a v z) (sym r.1)
          (record {
            step = by_open mount a v v o
                (record {
                  answer = r.0;
                  reading = refl;
                  is_open_after = o ∙ sym (ap (λ (z : Answer). cond (is_granted (event mount z)) true true) r.0);
                });
            good = g;
            same = refl;
          })
      go false o =
          let e = mounts_granted (d.closed o) in
          let m = d.granted (ap (λ (z : Answer). z.number) e) in
          record {
            step = by_closed mount a v w o (record { answer = e; reading = ap (λ ps. reading (sayings ps)) m.same_chip.pages; is_open_after = m.opens });
            good = good_open w m.opens m.sound;
            same = same_capacity v w m.same_chip.same_size;
          }

-- Every call.
stepped : (c : Call) (a : Answer) (v w : View) → Good v → Does c v a w → Stepped c a v w
stepped mount a v w g d = mounts_stepped a v w g d
stepped close a v w g d = closes_stepped a v w g d
stepped clean a v w g d = cleans_stepped a v w g d
stepped freeze a v w g d = changes_stepped freeze a v w g refl refl refl d
stepped open_slip a v w g d = changes_stepped open_slip a v w g refl refl refl d
stepped (write s given) a v w g d = changes_stepped (write s given) a v w g refl refl refl d
stepped (delete s) a v w g d = changes_stepped (delete s) a v w g refl refl refl d
stepped (release n) a v w g d = changes_stepped (release n) a v w g refl refl refl d
stepped (revert n) a v w g d = changes_stepped (revert n) a v w g refl refl refl d
stepped (keep_slip n) a v w g d = changes_stepped (keep_slip n) a v w g refl refl refl d
stepped (back_slip n) a v w g d = changes_stepped (back_slip n) a v w g refl refl refl d
stepped count a v w g d = asks_stepped count a v w g refl refl refl (count_leaves _ _) d.0 d.1
stepped (read s buffer) a v w g d = asks_stepped (read s buffer) a v w g refl refl refl (read_leaves _ _ s buffer) d.0 d.1
stepped (look n s buffer) a v w g d = asks_stepped (look n s buffer) a v w g refl refl refl (look_leaves _ _ n s buffer) d.0 d.1
stepped (since s) a v w g d = asks_stepped (since s) a v w g refl refl refl (since_leaves _ _ s) d.0 d.1
stepped (since_in n s) a v w g d = asks_stepped (since_in n s) a v w g refl refl refl (since_in_leaves _ _ n s) d.0 d.1
stepped (ask_held buffer) a v w g d = asks_stepped (ask_held buffer) a v w g refl refl refl (held_leaves _ _ buffer) d.0 d.1
stepped (ask_label buffer) a v w g d = asks_stepped (ask_label buffer) a v w g refl refl refl (label_leaves _ _ buffer) d.0 d.1

-- The store after a history is good, and the history is a run.
pub reached : (label : List ℕ) (es : List Event) (w : View) → History label es w → Good w × Run (capacity_of w) label es (state_of w)
reached label [] w (v, f) =
    (good_open w f.opens f.sound, rw (f.opens, f.reads) refl)
reached label (e ∷ es) w (v, h, d) =
    let i = reached label es v h in
    let s = stepped e.call e.answer v w i.0 d in
    (s.good, subst (λ c. Run c label (e ∷ es) (state_of w)) (sym s.same) (state_of v, i.1, s.step))

pub lawful : EveryHistoryIsLawful
lawful label es w h = every_run_lawful (capacity_of w) label es (state_of w) (reached label es w h).1

pub equation : EveryRevertIsTheEquation
equation label es w h n k = revert_equation.on_runs (capacity_of w) label es (state_of w) (reached label es w h).1 n k
