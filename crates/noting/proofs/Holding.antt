-- Lists of held numbers.
use Rattle.std.proofs.Common.{◌≡◌, ℕ, ◌+◌, ◌<◌, ◌≤◌, Bool, true, false, ◌&&◌, ltb, leb, List, [], ◌∷◌, ◌++◌, length, get_or, drop, Some, None, Option, unwrap_or, sym, refl, ap, ◌∙◌, arith}
use Rattle.std.proofs.lemmas.List.{at_drop_more, at_drop_all, append_assoc, append-nil, length-take-le, length_push}
use Rattle.std.proofs.lemmas.Bool.{and_parts, ltb-true, leb-true, lt-ltb, le-leb}
use Rattle.std.specs.Option.{option_map}
use Rattle.limits.specs.declared.types.Bounded.{Bounded}
use Rattle.limits.specs.Numbers.{rising}
use Rattle.limits.specs.Values.{held_of, up_to}
use Rattle.readings.specs.Versions.{put, keep}

-- A number above all goes after them.
pub rising_push : (low top n : ℕ) (ns : List ℕ) → rising low top ns ≡ true → low < n → top < n → rising low n (ns ++ (n ∷ [])) ≡ true
rising_push low top n [] r l h = rw (lt-ltb low n l, le-leb n n (omega arith)) refl
rising_push low top n (m ∷ ms) r l h =
    let a = and_parts (ltb low m) (leb m top && rising m top ms) r in
    let b = and_parts (leb m top) (rising m top ms) a.1 in
    let q = leb-true m top b.0 in
    let ih = rising_push m top n ms b.1 (omega arith) h in
    rw (a.0, le-leb m n (omega arith), ih) refl

-- Fewer numbers, from lower on and to higher.
pub rising_keep : (p : ℕ → Bool) (low least top later : ℕ) (ns : List ℕ) → rising low top ns ≡ true → least ≤ low → top ≤ later → rising least later (keep p ns) ≡ true
unfolding keep
rising_keep p low least top later [] r l h = refl
rising_keep p low least top later (m ∷ ms) r l h =
    let a = and_parts (ltb low m) (leb m top && rising m top ms) r in
    let b = and_parts (leb m top) (rising m top ms) a.1 in
    let u = ltb-true low m a.0 in
    let q = leb-true m top b.0 in
    go (p m) (omega arith) (omega arith) (rising_keep p m m top later ms b.1 (omega arith) h) (rising_keep p m least top later ms b.1 (omega arith) h)
  where
    go : (t : Bool) → least < m → m ≤ later → rising m later (keep p ms) ≡ true → rising least later (keep p ms) ≡ true → rising least later (put t m (keep p ms)) ≡ true
    go true x y i j = rw (lt-ltb least m x, le-leb m later y, i) refl
    go false x y i j = j

-- One number of a list that is filtered.
module _ (p : ℕ → Bool) (ns left : List ℕ) (i n : ℕ) (h : i < length ns) (at : n ≡ get_or ns i 0) where
  keep_step : keep p (drop i ns) ≡ put (p n) n (keep p (drop (i + 1) ns))
  unfolding keep
  keep_step = rw at (at_drop_more (keep p) ns i 0 h)

  pub keep_yes : p n ≡ true → left ++ keep p (drop i ns) ≡ keep p ns → (left ++ (n ∷ [])) ++ keep p (drop (i + 1) ns) ≡ keep p ns
  keep_yes t e = let s = keep_step in rw (append_assoc left (n ∷ []) (keep p (drop (i + 1) ns))) (ap (λ l. left ++ l) (sym (s ∙ rw t refl)) ∙ e)

  pub keep_no : p n ≡ false → left ++ keep p (drop i ns) ≡ keep p ns → left ++ keep p (drop (i + 1) ns) ≡ keep p ns
  keep_no t e = let s = keep_step in ap (λ l. left ++ l) (sym (s ∙ rw t refl)) ∙ e

pub keep_end : (p : ℕ → Bool) (ns left : List ℕ) (i : ℕ) → length ns ≤ i → left ++ keep p (drop i ns) ≡ keep p ns → left ≡ keep p ns
unfolding keep
keep_end p ns left i h e = sym (append-nil left) ∙ ap (λ l. left ++ l) (sym (at_drop_all (keep p) ns i h)) ∙ e

-- One number more, where there is room.
pub with_more : (left : Bounded ℕ 8) (n : ℕ) (r : Option (Bounded ℕ 8)) → length (held_of left) < 8 → option_map held_of r ≡ up_to 8 (held_of left ++ (n ∷ [])) →
    held_of (unwrap_or r left) ≡ held_of left ++ (n ∷ [])
with_more left n r h e = go r (e ∙ rw (le-leb (length (held_of left ++ (n ∷ []))) 8 (omega (arith, length_push (held_of left) n))) refl)
  where
    go : (r : Option (Bounded ℕ 8)) → option_map held_of r ≡ Some (held_of left ++ (n ∷ [])) → held_of (unwrap_or r left) ≡ held_of left ++ (n ∷ [])
    go None e = cc
    go (Some b) e = cc

pub held_length : (held : Bounded ℕ 8) → length (held_of held) ≡ held.len
held_length held = length-take-le held.len held.items (let a = held.few in let b = held.room in omega arith)
