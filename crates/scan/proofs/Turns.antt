-- One turn of a scan.
use Rattle.std.proofs.Common.{◌≡◌, ℕ, ◌+◌, ◌<◌, ◌≤◌, ◌⊎◌, List, [], ◌∷◌, ◌++◌, length, get_or, take, drop, set, Some, Option, sym, refl, ap, ◌∙◌, inl, inr, arith}
use Rattle.std.proofs.lemmas.List.{at_drop_more, drop_more, drop_all, take-append-drop, take_all, take_more_set, append_assoc, drop-set-lt}
use Rattle.chip.specs.Pages as chip
use Rattle.limits.specs.Values.{RegisterValues}
use Rattle.layout.specs.Page as layout
use Rattle.layout.specs.Page.{Meaning, meaning, page_meaning, summary}
use Rattle.layout.specs.declared.pages.Page.{Page}
use Rattle.layout.specs.declared.pages.Page.TheVariants as page
use Rattle.scan.specs.Scan.{if_bad, lowest_bad, younger, youngest, tags_read}

abbrev pub Triple : Type 0
Triple = ℕ × ℕ × ℕ

-- the table once the pages from k on are read too
abbrev pub table_from : List chip.Page → ℕ → List Triple → List Triple
table_from ps k ts = take k ts ++ tags_read (drop k ps) (drop k ts)

good_page : {X : Type 0} (x : Page) (f : ℕ → X) (z : X) → if_bad (page_meaning x) f z ≡ z
good_page page.Erased f z = refl
good_page (page.Data v) f z = refl
good_page (page.Deletion v) f z = refl
good_page (page.Register r) f z = refl

tags_none : (ps : List chip.Page) → tags_read ps [] ≡ []
tags_none [] = refl
tags_none (p ∷ ps) = refl

-- the page k is read
module _ (ps : List chip.Page) (k : ℕ) (lt : k < length ps) where
  low_more : (y : Meaning) → meaning (get_or ps k []) ≡ y → lowest_bad k (drop k ps) ≡ if_bad y (λ cause. Some (k, cause)) (lowest_bad (k + 1) (drop (k + 1) ps))
  low_more y e = at_drop_more (lowest_bad k) ps k [] lt ∙ ap (λ s. if_bad s (λ cause. Some (k, cause)) (lowest_bad (k + 1) (drop (k + 1) ps))) e

  pub low_bad : (c : ℕ) → layout.Bad c ≡ meaning (get_or ps k []) → lowest_bad k (drop k ps) ≡ Some (k, c)
  low_bad c e = low_more (layout.Bad c) (sym e)

  pub low_good : (x : Page) → page_meaning x ≡ meaning (get_or ps k []) → lowest_bad (k + 1) (drop (k + 1) ps) ≡ lowest_bad k (drop k ps)
  low_good x e = sym (low_more (page_meaning x) (sym e) ∙ good_page x _ _)

  pub young_more : (best : Option RegisterValues) (y : Meaning) → y ≡ meaning (get_or ps k []) → youngest (younger best y) (drop (k + 1) ps) ≡ youngest best (drop k ps)
  young_more best y e = ap (λ s. youngest (younger best s) (drop (k + 1) ps)) e ∙ sym (at_drop_more (youngest best) ps k [] lt)

  module _ (ts : List Triple) where
    tags_more : k < length ts → (y : Meaning) → meaning (get_or ps k []) ≡ y → tags_read (drop k ps) (drop k ts) ≡ if_bad y (λ _. drop k ts) (summary y ∷ tags_read (drop (k + 1) ps) (drop (k + 1) ts))
    tags_more h y e =
        let d = drop_more ts k (0, 0, 0) h in
        (λ i. tags_read (drop_more ps k [] lt i) (d i))
        ∙ (λ i. if_bad (e i) (λ _. sym d i) (summary (e i) ∷ tags_read (drop (k + 1) ps) (drop (k + 1) ts)))

    -- a bad page leaves the rest of the table
    pub table_bad : (c : ℕ) → layout.Bad c ≡ meaning (get_or ps k []) → (k < length ts) ⊎ (length ts ≤ k) → table_from ps k ts ≡ ts
    table_bad c e (inl h) = ap (λ r. take k ts ++ r) (tags_more h (layout.Bad c) (sym e)) ∙ take-append-drop k ts
    table_bad c e (inr h) = ap (λ r. take k ts ++ r) ((λ i. tags_read (drop k ps) (drop_all k ts h i)) ∙ tags_none (drop k ps) ∙ sym (drop_all k ts h)) ∙ take-append-drop k ts

    pub table_good : (x : Page) (t : Triple) → page_meaning x ≡ meaning (get_or ps k []) → t ≡ summary (page_meaning x) → k < length ts → table_from ps (k + 1) (set ts k t) ≡ table_from ps k ts
    table_good x t e et h =
        let rest = tags_read (drop (k + 1) ps) (drop (k + 1) ts) in
        (λ i. take_more_set ts k t h i ++ tags_read (drop (k + 1) ps) (drop-set-lt (k + 1) ts k t (omega arith) i))
        ∙ append_assoc (take k ts) (t ∷ []) rest
        ∙ ap (λ u. take k ts ++ u ∷ rest) et
        ∙ ap (λ r. take k ts ++ r) (sym (tags_more h (page_meaning x) (sym e) ∙ good_page x _ _))

    pub table_past : length ts ≤ k → table_from ps (k + 1) ts ≡ table_from ps k ts
    table_past h =
        let none = λ (n : ℕ) (qs : List chip.Page) (g : length ts ≤ n). (λ i. take_all n ts g i ++ tags_read qs (drop_all n ts g i)) ∙ ap (λ r. ts ++ r) (tags_none qs) in
        none (k + 1) (drop (k + 1) ps) (omega arith) ∙ sym (none k (drop k ps) h)
