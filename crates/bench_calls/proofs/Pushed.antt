-- Calls appended one by one.
use Rattle.std.proofs.Common.{◌≡◌, ℕ, ◌+◌, ◌<◌, ◌≤◌, true, false, cond, List, [], ◌∷◌, ◌++◌, map, length, get_or, drop, Some, None, Option, sym, refl, ap, ◌∙◌}
use Rattle.std.proofs.lemmas.List.{map_push, append_assoc, append-nil, at_drop_more, at_drop_all}
use Rattle.bench_lines.specs.declared.commands.Command.{Command}
use Rattle.rules.specs.Calls.{Call, mount}
use Rattle.session.specs.declared.requests.Request.{Request}
use Rattle.session.specs.declared.requests.Request.TheVariants.{Mount}
use Rattle.session.specs.Requests.{call_of}
use Rattle.bench_calls.specs.Calls.{first_call, is_remount, calls_for, calls_in}

module _ (fills : List (List ℕ)) (c : Command) (old one : List Request) (f : Request) (is : one ≡ old ++ (f ∷ [])) (first : call_of f ≡ first_call fills c) where
  pushed : map call_of one ≡ map call_of old ++ (first_call fills c ∷ [])
  pushed = ap (map call_of) is ∙ map_push call_of old f ∙ ap (λ x. map call_of old ++ (x ∷ [])) first

  pub one_call : is_remount c ≡ false → map call_of one ≡ map call_of old ++ calls_for fills c
  one_call h = pushed ∙ ap (λ b. map call_of old ++ (first_call fills c ∷ cond b (mount ∷ []) [])) (sym h)

  pub two_calls : (two : List Request) → is_remount c ≡ true → two ≡ one ++ (Mount ∷ []) → map call_of two ≡ map call_of old ++ calls_for fills c
  two_calls two h e =
      ap (map call_of) e ∙ map_push call_of one Mount ∙ ap (λ xs. xs ++ (mount ∷ [])) pushed
      ∙ append_assoc (map call_of old) (first_call fills c ∷ []) (mount ∷ []) ∙ ap (λ b. map call_of old ++ (first_call fills c ∷ cond b (mount ∷ []) [])) (sym h)

pub is_none : (o : Option Command) → ((c : Command) → o ≡ Some c → ⊥) → o ≡ None
is_none None h = refl
is_none (Some c) h = absurd (h c refl)

-- A line more.
module _ (fills : List (List ℕ)) (lines : List (Option Command)) (old new : List Call) (i : ℕ) (h : i < length lines) (inv : old ++ calls_in fills (drop i lines) ≡ calls_in fills lines) where
  pub command_more : (c : Command) → get_or lines i None ≡ Some c → new ≡ old ++ calls_for fills c → new ++ calls_in fills (drop (i + 1) lines) ≡ calls_in fills lines
  command_more c e n =
      ap (λ xs. xs ++ calls_in fills (drop (i + 1) lines)) n ∙ append_assoc old (calls_for fills c) (calls_in fills (drop (i + 1) lines))
      ∙ ap (λ xs. old ++ xs) (sym (at_drop_more (calls_in fills) lines i None h ∙ ap (λ l. calls_in fills (l ∷ drop (i + 1) lines)) e)) ∙ inv

  pub none_more : get_or lines i None ≡ None → new ≡ old → new ++ calls_in fills (drop (i + 1) lines) ≡ calls_in fills lines
  none_more e n =
      ap (λ xs. xs ++ calls_in fills (drop (i + 1) lines)) n
      ∙ ap (λ xs. old ++ xs) (sym (at_drop_more (calls_in fills) lines i None h ∙ ap (λ l. calls_in fills (l ∷ drop (i + 1) lines)) e)) ∙ inv

pub all_lines : (fills : List (List ℕ)) (lines : List (Option Command)) (old : List Call) (i : ℕ) → length lines ≤ i → old ++ calls_in fills (drop i lines) ≡ calls_in fills lines → old ≡ calls_in fills lines
all_lines fills lines old i h inv = sym (append-nil old) ∙ ap (λ xs. old ++ xs) (sym (at_drop_all (calls_in fills) lines i h)) ∙ inv
