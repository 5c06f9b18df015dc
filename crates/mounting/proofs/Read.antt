-- From what a scan answers to what the pages say.
use Rattle.std.proofs.Common.{◌≡◌, ℕ, ◌+◌, ◌≤◌, Bool, true, false, cond, ltb, leb, ◌⊎◌, List, [], ◌∷◌, map, length, take, Some, None, Ok, Err, Option, Result, sym, refl, ap, ◌∙◌, inl, inr, arith}
use Rattle.std.proofs.lemmas.Bool.{le-ltb}
use Rattle.std.proofs.lemmas.Bool.Decides.{nat_tests}
use Rattle.chip.specs.Pages.{Page}
use Rattle.limits.specs.Values.{RegisterValues}
use Rattle.layout.specs.Page as layout
use Rattle.layout.specs.Page.{Meaning, meaning, summary, tag_of}
use Rattle.layout.specs.declared.pages.Tag.{Tag}
use Rattle.layout.specs.declared.pages.Tag.TheVariants as tag
use Rattle.scan.specs.Scan as scan
use Rattle.scan.specs.Scan.{if_bad, lowest_bad, youngest, tags_read, unless_bad}
use Rattle.readings.specs.Versions.{bytes, deleted, any}
use Rattle.readings.specs.Sayings.{Register, Saying, version, register, heard, said, sayings}
use Rattle.readings.specs.Reading.{latest, younger}
use Rattle.readings.specs.Mount.{Verdict, bad_first, bad_from, is_register}
use Rattle.mounting.specs.Tagged.{plain_version, bare, tag_saying, tag_sayings, Tagged}

abbrev Low : Type 0
Low = Option (ℕ × ℕ)

-- the lowest bad page
pub none_bad : (n : ℕ) (ps : List Page) (v : Verdict) → lowest_bad n ps ≡ None → bad_from n (sayings ps) v ≡ v
unfolding said
none_bad n [] v e = refl
none_bad n (p ∷ ps) v e = go (meaning p) e (none_bad (n + 1) ps v)
  where
    go : (m : Meaning) → ◌≡◌ {A = Low} (if_bad m (λ cause. Some (n, cause)) (lowest_bad (n + 1) ps)) None → (lowest_bad (n + 1) ps ≡ None → bad_from (n + 1) (sayings ps) v ≡ v) →
        bad_first (heard m p) n (bad_from (n + 1) (sayings ps) v) ≡ v
    go layout.Erased e ih = ih e
    go (layout.Data s b) e ih = ih e
    go (layout.Deletion s b) e ih = ih e
    go (layout.Register b held label) e ih = ih e
    go (layout.Bad c) e ih = let z : ◌≡◌ {A = ℕ} 0 1 = cc in absurd (omega arith)

pub bad_found : (n : ℕ) (ps : List Page) (v : Verdict) (k c : ℕ) → lowest_bad n ps ≡ Some (k, c) → bad_from n (sayings ps) v ≡ record { number = 5; values = k ∷ c ∷ [] }
unfolding said
bad_found n [] v k c e = let z : ◌≡◌ {A = ℕ} 0 1 = cc in absurd (omega arith)
bad_found n (p ∷ ps) v k c e = go (meaning p) e (bad_found (n + 1) ps v k c)
  where
    go : (m : Meaning) → ◌≡◌ {A = Low} (if_bad m (λ cause. Some (n, cause)) (lowest_bad (n + 1) ps)) (Some (k, c)) →
        (lowest_bad (n + 1) ps ≡ Some (k, c) → bad_from (n + 1) (sayings ps) v ≡ record { number = 5; values = k ∷ c ∷ [] }) →
        bad_first (heard m p) n (bad_from (n + 1) (sayings ps) v) ≡ record { number = 5; values = k ∷ c ∷ [] }
    go layout.Erased e ih = ih e
    go (layout.Data s b) e ih = ih e
    go (layout.Deletion s b) e ih = ih e
    go (layout.Register b held label) e ih = ih e
    go (layout.Bad d) e ih =
        let f : ◌≡◌ {A = ℕ × ℕ} (n, d) (k, c) = cc in
        (λ i. record { number = 5; values = (f i).0 ∷ (f i).1 ∷ [] })

-- the tags
differ : {t u : ℕ × ℕ × ℕ} → t ≡ u → (t.0 ≡ u.0 → ⊥) → ⊥
differ {t} {u} e n = n (ap (λ (x : ℕ × ℕ × ℕ). x.0) e)

tag_said : (p : Page) (m : Meaning) (t : Tag) → ((c : ℕ) → m ≡ layout.Bad c → ⊥) → tag_of t ≡ summary m → tag_saying t ≡ bare (heard m p)
tag_said p layout.Erased tag.Erased n e = refl
tag_said p layout.Erased (tag.Data v) n e = absurd (differ e (λ z. absurd (omega arith)))
tag_said p layout.Erased (tag.Deletion v) n e = absurd (differ e (λ z. absurd (omega arith)))
tag_said p layout.Erased (tag.Register b) n e = absurd (differ e (λ z. absurd (omega arith)))
tag_said p (layout.Data s b) tag.Erased n e = absurd (differ e (λ z. absurd (omega arith)))
tag_said p (layout.Data s b) (tag.Data v) n e = (λ i. version (plain_version (e i).1 (e i).2 (bytes [])))
tag_said p (layout.Data s b) (tag.Deletion v) n e = absurd (differ e (λ z. absurd (omega arith)))
tag_said p (layout.Data s b) (tag.Register c) n e = absurd (differ e (λ z. absurd (omega arith)))
tag_said p (layout.Deletion s b) tag.Erased n e = absurd (differ e (λ z. absurd (omega arith)))
tag_said p (layout.Deletion s b) (tag.Data v) n e = absurd (differ e (λ z. absurd (omega arith)))
tag_said p (layout.Deletion s b) (tag.Deletion v) n e = (λ i. version (plain_version (e i).1 (e i).2 deleted))
tag_said p (layout.Deletion s b) (tag.Register c) n e = absurd (differ e (λ z. absurd (omega arith)))
tag_said p (layout.Register b h l) tag.Erased n e = absurd (differ e (λ z. absurd (omega arith)))
tag_said p (layout.Register b h l) (tag.Data v) n e = absurd (differ e (λ z. absurd (omega arith)))
tag_said p (layout.Register b h l) (tag.Deletion v) n e = absurd (differ e (λ z. absurd (omega arith)))
tag_said p (layout.Register b h l) (tag.Register c) n e = (λ i. register (record { birth = (e i).2; held = []; label = [] }))
tag_said p (layout.Bad c) t n e = absurd (n c refl)

abbrev Told : ℕ → List Page → List (ℕ × ℕ × ℕ) → Type 0
Told n ps old = (us : List Tag) → lowest_bad n ps ≡ None → map tag_of us ≡ tags_read ps old → Tagged (sayings ps) (take (length ps) us)

pub tags_told : (n : ℕ) (ps : List Page) (ts : List Tag) (old : List (ℕ × ℕ × ℕ)) → length ps ≤ length old → lowest_bad n ps ≡ None → map tag_of ts ≡ tags_read ps old →
    Tagged (sayings ps) (take (length ps) ts)
unfolding said
tags_told n [] ts old l low e = refl
tags_told n (p ∷ ps) ts [] l low e = absurd (omega arith)
tags_told n (p ∷ ps) ts (o ∷ old) l low e = go (meaning p) ts (λ us f g. tags_told (n + 1) ps us old (omega arith) f g) low e
  where
    rest : (m : Meaning) (t : Tag) (us : List Tag) → Told (n + 1) ps old → ((c : ℕ) → m ≡ layout.Bad c → ⊥) → lowest_bad (n + 1) ps ≡ None → map tag_of (t ∷ us) ≡ summary m ∷ tags_read ps old →
        tag_sayings (take (length (p ∷ ps)) (t ∷ us)) ≡ bare (heard m p) ∷ map bare (sayings ps)
    rest m t us ih good low e =
        let f : tag_of t ≡ summary m = cc in
        let g : map tag_of us ≡ tags_read ps old = cc in
        (λ i. tag_said p m t good f i ∷ ih us low g i)

    go : (m : Meaning) (ts : List Tag) → Told (n + 1) ps old → ◌≡◌ {A = Low} (if_bad m (λ cause. Some (n, cause)) (lowest_bad (n + 1) ps)) None →
        map tag_of ts ≡ if_bad m (λ _. o ∷ old) (summary m ∷ tags_read ps old) →
        tag_sayings (take (length (p ∷ ps)) ts) ≡ bare (heard m p) ∷ map bare (sayings ps)
    go layout.Erased [] ih low e = let z : ◌≡◌ {A = ℕ} 0 1 = cc in absurd (omega arith)
    go layout.Erased (t ∷ us) ih low e = rest layout.Erased t us ih (λ c f. let z : ◌≡◌ {A = ℕ} 0 1 = cc in absurd (omega arith)) low e
    go (layout.Data s b) [] ih low e = let z : ◌≡◌ {A = ℕ} 0 1 = cc in absurd (omega arith)
    go (layout.Data s b) (t ∷ us) ih low e = rest (layout.Data s b) t us ih (λ c f. let z : ◌≡◌ {A = ℕ} 0 1 = cc in absurd (omega arith)) low e
    go (layout.Deletion s b) [] ih low e = let z : ◌≡◌ {A = ℕ} 0 1 = cc in absurd (omega arith)
    go (layout.Deletion s b) (t ∷ us) ih low e = rest (layout.Deletion s b) t us ih (λ c f. let z : ◌≡◌ {A = ℕ} 0 1 = cc in absurd (omega arith)) low e
    go (layout.Register b h r) [] ih low e = let z : ◌≡◌ {A = ℕ} 0 1 = cc in absurd (omega arith)
    go (layout.Register b h r) (t ∷ us) ih low e = rest (layout.Register b h r) t us ih (λ c f. let z : ◌≡◌ {A = ℕ} 0 1 = cc in absurd (omega arith)) low e
    go (layout.Bad c) ts ih low e = let z : ◌≡◌ {A = ℕ} 0 1 = cc in absurd (omega arith)

-- the youngest register
abbrev pub values : Register → RegisterValues
values r = record { birth = r.birth; held = r.held; label = r.label }

abbrev Best : Type 0
Best = Option RegisterValues

abbrev over : RegisterValues → Register → RegisterValues
over f l = cond (ltb f.birth l.birth) (values l) f

split : (ps : List Page) (b : Bool) (x y : Best) → youngest (cond b x y) ps ≡ cond b (youngest x ps) (youngest y ps)
split ps true x y = refl
split ps false x y = refl

pick : (f : RegisterValues) (r l : Register) → cond (ltb f.birth r.birth) (Some (over (values r) l)) (Some (over f l)) ≡ Some (over f (cond (leb l.birth r.birth) r l))
pick f r l = grind (arith, nat_tests)

pick_first : (r l : Register) → over (values r) l ≡ values (cond (leb l.birth r.birth) r l)
pick_first r l = grind (arith, nat_tests)

young_over : (f : RegisterValues) (ps : List Page) → youngest (Some f) ps ≡ Some (over f (latest (sayings ps)))
unfolding said latest
young_over f [] = ap (λ b. Some (cond b (values (record { birth = 0; held = []; label = [] })) f)) (sym (le-ltb f.birth 0 (omega arith)))
young_over f (p ∷ ps) = go (meaning p) (λ g. young_over g ps)
  where
    go : (m : Meaning) → ((g : RegisterValues) → youngest (Some g) ps ≡ Some (over g (latest (sayings ps)))) → youngest (scan.younger (Some f) m) ps ≡ Some (over f (younger (heard m p) (latest (sayings ps))))
    go layout.Erased ih = ih f
    go (layout.Data s b) ih = ih f
    go (layout.Deletion s b) ih = ih f
    go (layout.Register b h l) ih =
        let r : RegisterValues = record { birth = b; held = h; label = l } in
        split ps (ltb f.birth b) (Some r) (Some f) ∙ (λ i. cond (ltb f.birth b) (ih r i) (ih f i)) ∙ pick f (record { birth = b; held = h; label = l }) (latest (sayings ps))
    go (layout.Bad c) ih = ih f

abbrev Youngest : List Saying → Best → Type 0
Youngest xs o = ((o ≡ None) × (any is_register xs ≡ false)) ⊎ ((o ≡ Some (values (latest xs))) × (any is_register xs ≡ true))

pub young_is : (ps : List Page) → Youngest (sayings ps) (youngest None ps)
unfolding said latest
young_is [] = inl (refl, refl)
young_is (p ∷ ps) = go (meaning p) (young_is ps)
  where
    go : (m : Meaning) → Youngest (sayings ps) (youngest None ps) → Youngest (heard m p ∷ sayings ps) (youngest (scan.younger None m) ps)
    go layout.Erased ih = ih
    go (layout.Data s b) ih = ih
    go (layout.Deletion s b) ih = ih
    go (layout.Register b h l) ih =
        inr (young_over (record { birth = b; held = h; label = l }) ps ∙ ap Some (pick_first (record { birth = b; held = h; label = l }) (latest (sayings ps))), refl)
    go (layout.Bad c) ih = ih

-- the answer
pub unless_err : (o : Low) (best : Best) (b : ℕ × ℕ) → ◌≡◌ {A = Result Best (ℕ × ℕ)} (Err b) (unless_bad o best) → o ≡ Some b
unless_err None best b e = let z : ◌≡◌ {A = ℕ} 0 1 = cc in absurd (omega arith)
unless_err (Some d) best b e = let f : b ≡ d = cc in ap Some (sym f)

pub unless_ok : (o : Low) (best found : Best) → ◌≡◌ {A = Result Best (ℕ × ℕ)} (Ok found) (unless_bad o best) → (o ≡ None) × (found ≡ best)
unless_ok None best found e = (refl, cc)
unless_ok (Some d) best found e = let z : ◌≡◌ {A = ℕ} 0 1 = cc in absurd (omega arith)
