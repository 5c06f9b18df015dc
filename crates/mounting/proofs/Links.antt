-- Links by keys are links, and need is a test of births and links.
use Rattle.std.proofs.Common.{◌≡◌, ℕ, zero, suc, ◌<◌, true, false, not, eqb, List, [], ◌∷◌, map, length, get_or, Some, None, MatchBool, Option, unwrap_or, sym, refl, ap, ◌∙◌, subst, inl, inr, arith}
use Rattle.std.specs.List.{ContainsAt as Has}
use Rattle.std.specs.List.Sorted.{IsPermutation}
use Rattle.std.proofs.lemmas.List.Sorted.{IsPermutation-sym}
use Rattle.std.proofs.ByRecursion.{has_shuffled}
use Rattle.std.proofs.lemmas.Bool.{eq-eqb, ne_eqb, and_parts, not-true, or_left, or_right, both_ways}
use Rattle.readings.specs.Versions.{Version, has}
use Rattle.readings.specs.Sorted.{In, Apart}
use Rattle.readings.specs.Meaning.{Once}
use Rattle.readings.specs.Sayings.{Saying, nothing, version, register, bad}
use Rattle.readings.specs.Reading.{versions}
use Rattle.readings.specs.Mount.{births, distinct}
use Rattle.readings.specs.Links.{IsLast, IsLink, Linked}
use Rattle.mounting.specs.Keys.{key, key_of, NextBirth}
use Rattle.mounting.specs.Recorded.{LinkBy}

-- versions and keys
has_head : {X : Type 0} (x : X) (xs : List X) → Has (x ∷ xs) x
has_head x xs = (0, omega arith, λ d. refl)

has_tail : {X : Type 0} (y : X) (xs : List X) (x : X) → Has xs x → Has (y ∷ xs) x
has_tail y xs x h = (suc h.0, let q = h.1 in omega arith, h.2)

in_key : (vs : List Version) (v : Version) → In v vs → Has (map key_of vs) (key_of v)
in_key [] v i = absurd i
in_key (w ∷ ws) v (inl e) = subst (λ (x : Version). Has (map key_of (w ∷ ws)) (key_of x)) (sym e) (has_head (key_of w) (map key_of ws))
in_key (w ∷ ws) v (inr i) = has_tail (key_of w) (map key_of ws) (key_of v) (in_key ws v i)

key_in : (vs : List Version) (x : ℕ) → Has (map key_of vs) x → (v : Version) × In v vs × (key_of v ≡ x)
key_in [] x h = let q = h.1 in absurd (omega arith)
key_in (v ∷ vs) x h = go (key_in vs x) h.0 h.1 h.2
  where
    go : (Has (map key_of vs) x → (w : Version) × In w vs × (key_of w ≡ x)) → (k : ℕ) → k < length (map key_of (v ∷ vs)) → ((d : ℕ) → get_or (map key_of (v ∷ vs)) k d ≡ x) → (w : Version) × In w (v ∷ vs) × (key_of w ≡ x)
    go ih zero l e = (v, inl refl, e 0)
    go ih (suc k) l e = let r = ih (k, omega arith, e) in (r.0, inr r.1, r.2)

same_sector : (s t b c : ℕ) → b < 4294967296 → c < 4294967296 → key s b ≡ key t c → s ≡ t
same_sector s t b c p q e = omega arith

same_birth : (s t b c : ℕ) → b < 4294967296 → c < 4294967296 → key s b ≡ key t c → b ≡ c
same_birth s t b c p q e = omega arith

module _ (held : List ℕ) (vs : List Version) (ks : List ℕ) (fits : (v : Version) → In v vs → v.birth < 4294967296) (sh : IsPermutation (map key_of vs) ks) where
  there : (w : Version) → In w vs → (s : ℕ) → w.sector ≡ s → Has ks (key s w.birth)
  there w i s e = subst (λ t. Has ks (key t w.birth)) e (has_shuffled _ _ _ sh (in_key vs w i))

  back : (x : ℕ) → Has ks x → (v : Version) × In v vs × (key_of v ≡ x)
  back x h = key_in vs x (has_shuffled _ _ _ (IsPermutation-sym _ _ sh) h)

  last : (v : Version) → NextBirth ks v.sector v.birth None → IsLast vs v
  last v next w j e = next w.birth (fits w j) (there w j v.sector e)

  link : (v : Version) (t : ℕ) → NextBirth ks v.sector v.birth (Some t) → IsLink held vs v t
  link v t h =
      let r = back (key v.sector t) h.1 in
      let small = fits r.0 r.1 in
      let s = same_sector _ _ _ _ small h.0 r.2 in
      let b = same_birth _ _ _ _ small h.0 r.2 in
      let later : v.birth < t = h.2 in
      record {
        later = later;
        none_between = λ w j e l. h.3 w.birth (fits w j) (there w j v.sector e) l;
        replaced = (r.0, r.1, s, omega arith);
        seen = λ n has-n above. (r.0, r.1, s, omega arith, omega arith);
      }

  linked_by : (v : Version) (o : Option ℕ) → NextBirth ks v.sector v.birth o → Linked held vs v (unwrap_or o 0)
  linked_by v None next = last v next
  linked_by v (Some t) next =
      let later : v.birth < t = next.2 in
      let not-0 : eqb t 0 ≡ false = ne_eqb t 0 (λ e. absurd (omega arith)) in
      subst (λ b. MatchBool b (IsLast vs v) (IsLink held vs v t)) (sym not-0) (link v t next)

  pub linked : (v : Version) (t : ℕ) → LinkBy ks (version v) t → Linked held vs v t
  linked v t h = subst (Linked held vs v) (sym h.1) (linked_by v h.0 h.2)

-- a link of 0 is that of the youngest, and another is not
pub linked_last : (held : List ℕ) (vs : List Version) (v : Version) (t : ℕ) → t ≡ 0 → Linked held vs v t → IsLast vs v
linked_last held vs v t e l = subst (λ (n : ℕ). Linked held vs v n) e l

pub linked_link : (held : List ℕ) (vs : List Version) (v : Version) (t : ℕ) → (t ≡ 0 → ⊥) → Linked held vs v t → IsLink held vs v t
linked_link held vs v t n l = subst (λ b. MatchBool b (IsLast vs v) (IsLink held vs v t)) (ne_eqb t 0 n) l

-- births that differ
birth_stands : (xs : List Saying) (v : Version) → In v (versions xs) → has v.birth (births xs) ≡ true
unfolding versions births
birth_stands [] v i = absurd i
birth_stands (nothing ∷ xs) v i = birth_stands xs v i
birth_stands (version w ∷ xs) v (inl e) = or_left (eqb v.birth w.birth) _ (eq-eqb v.birth w.birth (ap (λ (u : Version). u.birth) e))
birth_stands (version w ∷ xs) v (inr i) = or_right (eqb v.birth w.birth) _ (birth_stands xs v i)
birth_stands (register r ∷ xs) v i = or_right (eqb v.birth r.birth) _ (birth_stands xs v i)
birth_stands (bad c ∷ xs) v i = or_right (eqb v.birth 0) _ (birth_stands xs v i)

pub once : (xs : List Saying) → distinct (births xs) ≡ true → Once (versions xs)
unfolding versions births distinct
once [] h = tt
once (nothing ∷ xs) h = once xs h
once (version v ∷ xs) h =
    let a = and_parts (not (has v.birth (births xs))) (distinct (births xs)) h in
    (λ w i e. both_ways (has v.birth (births xs)) (not-true _ a.0) (subst (λ b. has b (births xs) ≡ true) e (birth_stands xs w i)), once xs a.1)
once (register r ∷ xs) h = once xs (and_parts (not (has r.birth (births xs))) (distinct (births xs)) h).1
once (bad c ∷ xs) h = once xs (and_parts (not (has 0 (births xs))) (distinct (births xs)) h).1

pub once_apart : (vs : List Version) → Once vs → Apart vs
once_apart [] o v w i j e = absurd i
once_apart (x ∷ xs) o v w (inl i) (inl j) e = i ∙ sym j
once_apart (x ∷ xs) o v w (inl i) (inr j) e = absurd (o.0 w j (sym e ∙ ap (λ (y : Version). y.birth) i))
once_apart (x ∷ xs) o v w (inr i) (inl j) e = absurd (o.0 v i (e ∙ ap (λ (y : Version). y.birth) j))
once_apart (x ∷ xs) o v w (inr i) (inr j) e = once_apart xs o.1 v w i j e
