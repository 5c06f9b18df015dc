-- The ways through a mount.
use Rattle.std.proofs.Common.{◌≡◌, ℕ, ◌+◌, ◌-◌, ◌*◌, ◌<◌, ◌≤◌, Bool, true, false, cond, not, ◌&&◌, ltb, List, [], ◌∷◌, map, length, get_or, take, Some, None, Ok, Err, Option, sym, refl, ap, ◌∙◌, subst, inl, inr, mul-le-mul_right, arith}
use Rattle.std.specs.List.Sorted.{IsPermutation}
use Rattle.std.proofs.lemmas.List.{length-map}
use Rattle.std.proofs.lemmas.Bool.{lt-ltb, le-ltb, and_from, cond-true}
use Rattle.chip.specs.Pages.{Page, is_erased}
use Rattle.limits.specs.Values.{RegisterValues, register_values}
use Rattle.limits.specs.declared.types.Register.{Register}
use Rattle.layout.specs.Page.{tag_of}
use Rattle.layout.specs.declared.pages.Tag.{Tag}
use Rattle.scan.specs.Scan.{lowest_bad, youngest, tags_read, scanned, answer}
use Rattle.readings.specs.Versions.{any}
use Rattle.readings.specs.Sayings.{sayings}
use Rattle.readings.specs.Reading.{latest, reading}
use Rattle.readings.specs.Mount.{Verdict, plain, is_register, births, distinct, erased_block, capacity, is_store, size_fits, bad_from, mount_verdict}
use Rattle.tables.specs.declared.types.Record.{Record}
use Rattle.tables.specs.Records.{needed_count}
use Rattle.mounting.specs.Tagged.{tag_sayings, Tagged}
use Rattle.mounting.specs.Keys.{keys}
use Rattle.mounting.specs.Recorded.{RecordedBy}
use Rattle.mounting.specs.Blocks.{ErasedAt}
use Rattle.mounting.specs.Mounted.{Scanned}
use Rattle.mounting.proofs.Bare.{tagged_births, tagged_block, tagged_keys}
use Rattle.mounting.proofs.Told.{many, counted}
use Rattle.mounting.proofs.Silent.{spare_erased}
use Rattle.mounting.proofs.Read.{none_bad, bad_found, tags_told, values, young_is, unless_err, unless_ok}

four : (a b c d : Bool) (x y : Verdict) → a ≡ true → b ≡ true → c ≡ true → d ≡ true → x ≡ cond (a && (b && (c && d))) x y
four a b c d x y ea eb ec ed = rw (ea, eb, ec, ed) refl

second : (a b c d : Bool) (x y : Verdict) → b ≡ false → y ≡ cond (a && (b && (c && d))) x y
second true b c d x y e = rw e refl
second false b c d x y e = refl

third : (a b c d : Bool) (x y : Verdict) → c ≡ false → y ≡ cond (a && (b && (c && d))) x y
third true true c d x y e = rw e refl
third true false c d x y e = refl
third false b c d x y e = refl

fourth : (a b c d : Bool) (x y : Verdict) → d ≡ false → y ≡ cond (a && (b && (c && d))) x y
fourth true true true d x y e = rw e refl
fourth true true false d x y e = refl
fourth true false c d x y e = refl
fourth false b c d x y e = refl

-- the numbers of the code, and those of the chip
module _ (B P : ℕ) (pages : List Page) (ts : List Tag) (tagged : Tagged (sayings pages) ts) (blocks per : ℕ) (eb : blocks ≡ B) (ep : per ≡ P) where
  abbrev pub Judged : Verdict → Type 0
  Judged v = v ≡ cond (is_store B P (sayings pages)) (plain 0) (plain 6)

  abbrev needs : ℕ
  needs = length (reading (sayings pages)).versions

  -- the four questions
  abbrev begins : Bool
  begins = any is_register (sayings pages)

  abbrev differs : Bool
  differs = distinct (births (sayings pages))

  abbrev spares : Bool
  spares = erased_block P B (sayings pages)

  abbrev keeps : Bool
  keeps = not (ltb (capacity B P) needs)

  pub differ : true ≡ distinct (births (tag_sayings ts)) → distinct (births (sayings pages)) ≡ true
  differ e = ap distinct (sym (tagged_births (sayings pages) ts tagged)) ∙ sym e

  block_is : erased_block P B (sayings pages) ≡ erased_block per blocks (tag_sayings ts)
  block_is = (λ i. erased_block (sym ep i) (sym eb i) (sayings pages)) ∙ sym (tagged_block (sayings pages) ts tagged per blocks)

  room_is : (blocks - 1) * per - 2 ≡ capacity B P
  room_is = (λ i. (eb i - 1) * ep i - 2)

  pub refuse_births : false ≡ distinct (births (tag_sayings ts)) → Judged (plain 6)
  refuse_births e = second begins differs spares keeps (plain 0) (plain 6) (ap distinct (sym (tagged_births (sayings pages) ts tagged)) ∙ sym e)

  pub refuse_block : erased_block per blocks (tag_sayings ts) ≡ false → Judged (plain 6)
  refuse_block e = third begins differs spares keeps (plain 0) (plain 6) (block_is ∙ e)

  pub refuse_need : (n : ℕ) → n ≡ needs → (blocks - 1) * per - 2 < n → Judged (plain 6)
  refuse_need n e l = let r = room_is in fourth begins differs spares keeps (plain 0) (plain 6) (ap not (lt-ltb (capacity B P) needs (omega arith)))

  pub grant : (n : ℕ) → any is_register (sayings pages) ≡ true → true ≡ distinct (births (tag_sayings ts)) → erased_block per blocks (tag_sayings ts) ≡ true → n ≡ needs → n ≤ (blocks - 1) * per - 2 → Judged (plain 0)
  grant n begun d b e l = let r = room_is in four begins differs spares keeps (plain 0) (plain 6) begun (differ d) (block_is ∙ b) (ap not (le-ltb (capacity B P) needs (omega arith)))

  pub shuffled_keys : (ks : List ℕ) → IsPermutation (keys (tag_sayings ts)) ks → IsPermutation (keys (sayings pages)) ks
  shuffled_keys ks s = subst (λ (l : List ℕ). IsPermutation l ks) (tagged_keys (sayings pages) ts tagged) s

  pub count_is : (rs : List Record) (held known : List ℕ) (n : ℕ) → true ≡ distinct (births (tag_sayings ts)) → RecordedBy (keys (tag_sayings ts)) (tag_sayings ts) rs →
      held ≡ known → known ≡ (latest (sayings pages)).held → length ts ≤ length rs → n ≡ needed_count held (take (length ts) rs) → n ≡ needs
  count_is rs held known n d recorded same e long count =
      let m = many pages ts tagged in
      count
      ∙ ap (λ (k : ℕ). needed_count held (take k rs)) m
      ∙ counted pages ts rs recorded.0 tagged recorded.2 (shuffled_keys recorded.0 recorded.1) (differ d) held (same ∙ e) (omega arith)

  pub spare_is : length pages ≡ B * P → (b : ℕ) → ErasedAt per blocks (tag_sayings ts) b → (b < B) × ((k : ℕ) → k < P → is_erased (get_or pages (b * P + k) []) ≡ true)
  spare_is whole b at =
      let here : length pages ≡ blocks * per = whole ∙ (λ i. sym eb i * sym ep i) in
      let q = at.stands in
      (omega arith, subst (λ (p : ℕ). (k : ℕ) → k < p → is_erased (get_or pages (b * p + k) []) ≡ true) ep (spare_erased per blocks pages ts tagged here b at))

pub room_fits : (blocks per : ℕ) → 2 ≤ blocks → 2 ≤ per → 2 ≤ (blocks - 1) * per
room_fits blocks per b p = omega (arith, mul-le-mul_right {m = 1} {n = blocks - 1} per (omega arith))

-- a chip of a fit size
module _ (B P : ℕ) (pages : List Page) (blocks per : ℕ) (eb : blocks ≡ B) (ep : per ≡ P) (some : 2 ≤ blocks) (few : blocks * per ≤ 2048) where
  abbrev judged : Verdict
  judged = cond (is_store B P (sayings pages)) (plain 0) (plain 6)

  fits : size_fits B P ≡ true
  fits =
      let e : blocks * per ≡ B * P = (λ i. eb i * ep i) in
      and_from (not (ltb B 2)) (not (ltb 2048 (B * P))) (ap not (le-ltb B 2 (omega arith))) (ap not (le-ltb 2048 (B * P) (omega arith)))

  sized : bad_from 0 (sayings pages) judged ≡ mount_verdict B P pages
  sized = sym (cond-true (size_fits B P) (bad_from 0 (sayings pages) judged) (plain 3) fits)

  pub verdict_bad : (k c : ℕ) → Err (k, c) ≡ scanned pages → record { number = 5; values = k ∷ c ∷ [] } ≡ mount_verdict B P pages
  verdict_bad k c e = sym (bad_found 0 pages judged k c (unless_err (lowest_bad 0 pages) (youngest None pages) (k, c) e)) ∙ sized

  pub verdict_good : (found : Option RegisterValues) → Ok found ≡ scanned pages → (v : Verdict) → v ≡ judged → v ≡ mount_verdict B P pages
  verdict_good found e v f = f ∙ sym (none_bad 0 pages judged (unless_ok (lowest_bad 0 pages) (youngest None pages) found e).0) ∙ sized

  pub verdict_none : (found : Option Register) → found ≡ None → answer (Ok found) ≡ scanned pages → plain 6 ≡ mount_verdict B P pages
  verdict_none found is f = verdict_good None e (plain 6) (elim (young_is pages) [ inl y ↦ ap (λ b. cond (b && rest) (plain 0) (plain 6)) (sym y.1) | inr y ↦ none_is_some ((unless_ok (lowest_bad 0 pages) (youngest None pages) None e).1 ∙ y.0) ])
    where
      e : Ok None ≡ scanned pages
      e = ap (λ (o : Option Register). answer (Ok o)) (sym is) ∙ f

      rest : Bool
      rest = distinct (births (sayings pages)) && (erased_block P B (sayings pages) && not (ltb (capacity B P) (length (reading (sayings pages)).versions)))

      none_is_some : {X : Type 0} {v : RegisterValues} → ◌≡◌ {A = Option RegisterValues} None (Some v) → X
      none_is_some e = let z : ◌≡◌ {A = ℕ} 0 1 = cc in absurd (omega arith)

pub scanned_some : (pages : List Page) (ts old : List Tag) (found : Option Register) (r : Register) (n : ℕ) → found ≡ Some r → answer (Ok found) ≡ scanned pages → map tag_of ts ≡ tags_read pages (map tag_of old) →
    length pages ≤ length old → n ≡ length pages → Scanned pages (take n ts) r
scanned_some pages ts old found r n is e table long many = elim (young_is pages) [
  | inl y ↦ let f : ◌≡◌ {A = Option RegisterValues} (Some (register_values r)) None = ok.1 ∙ y.0 in let z : ◌≡◌ {A = ℕ} 0 1 = cc in absurd (omega arith)
  | inr y ↦
      let f : ◌≡◌ {A = Option RegisterValues} (Some (register_values r)) (Some (values (latest (sayings pages)))) = ok.1 ∙ y.0 in
      let same : register_values r ≡ values (latest (sayings pages)) = cc in
      let l = length-map old tag_of in
      record {
        tagged = subst (λ k. Tagged (sayings pages) (take k ts)) (sym many) (tags_told 0 pages ts (map tag_of old) (omega arith) ok.0 table);
        begun = y.1;
        birth = ap (λ (v : RegisterValues). v.birth) same;
        held = ap (λ (v : RegisterValues). v.held) same;
        label = ap (λ (v : RegisterValues). v.label) same;
      }
]
  where
    ok : (lowest_bad 0 pages ≡ None) × (Some (register_values r) ≡ youngest None pages)
    ok = unless_ok (lowest_bad 0 pages) (youngest None pages) (Some (register_values r)) (ap (λ (o : Option Register). answer (Ok o)) (sym is) ∙ e)
