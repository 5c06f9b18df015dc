-- The rows of lines, printed one after the other.
use Rattle.std.proofs.Common.{◌≡◌, ℕ, ◌+◌, ◌<◌, ◌≤◌, List, [], ◌∷◌, ◌++◌, length, get_or, drop, Some, None, Option, sym, ap, ◌∙◌}
use Rattle.std.proofs.lemmas.List.{append_assoc, append-nil, at_drop_more, at_drop_all, nil_from_length}
use Rattle.bench_lines.specs.Replies.{row_of, rows_of}
use Rattle.bench_lines.specs.declared.commands.Command.{Command}
use Rattle.bench_lines.specs.declared.replies.Reply.{Reply}

-- A text and the rows to come, where there are none.
done : (text : List ℕ) {rows all : List ℕ} → rows ≡ [] → text ++ rows ≡ all → text ≡ all
done text none inv = sym (append-nil text) ∙ ap (λ rows. text ++ rows) (sym none) ∙ inv

-- A text and the rows to come, after one more row.
more : (text row others : List ℕ) {rows longer all : List ℕ} → rows ≡ row ++ others → longer ≡ text ++ row → text ++ rows ≡ all → longer ++ others ≡ all
more text row others first longer_is inv =
    rw longer_is (append_assoc text row others ∙ ap (λ rows. text ++ rows) (sym first) ∙ inv)

module _ (lines : List (Option Command)) (i : ℕ) (h : i < length lines) where
  abbrev line : Option Command
  line = get_or lines i None

  from_here : (replies : List Reply) {here : Option Command} → line ≡ here → rows_of (drop i lines) replies ≡ rows_of (here ∷ drop (i + 1) lines) replies
  from_here replies is =
      at_drop_more (λ rest. rows_of rest replies) lines i None h ∙ ap (λ here. rows_of (here ∷ drop (i + 1) lines) replies) is

  pub unknown_more : (text : List ℕ) (replies others : List Reply) {longer all : List ℕ} → line ≡ None → others ≡ replies → longer ≡ text ++ (63 ∷ 10 ∷ []) → text ++ rows_of (drop i lines) replies ≡ all → longer ++ rows_of (drop (i + 1) lines) others ≡ all
  unknown_more text replies others is same longer_is inv =
      rw same (more text (63 ∷ 10 ∷ []) (rows_of (drop (i + 1) lines) replies) (from_here replies is) longer_is inv)

  pub row_more : (text : List ℕ) (replies others : List Reply) (command : Command) (reply : Reply) {longer all : List ℕ} → line ≡ Some command → replies ≡ reply ∷ others → longer ≡ text ++ row_of command reply → text ++ rows_of (drop i lines) replies ≡ all → longer ++ rows_of (drop (i + 1) lines) others ≡ all
  row_more text replies others command reply is next longer_is inv =
      more text (row_of command reply) (rows_of (drop (i + 1) lines) others) (from_here replies is ∙ ap (rows_of (Some command ∷ drop (i + 1) lines)) next) longer_is inv

  pub row_none : (text : List ℕ) (replies : List Reply) {command : Command} {all : List ℕ} → line ≡ Some command → length replies ≡ 0 → text ++ rows_of (drop i lines) replies ≡ all → text ≡ all
  row_none text replies {command = command} is none inv =
      done text (from_here replies is ∙ ap (rows_of (Some command ∷ drop (i + 1) lines)) (nil_from_length replies none)) inv

pub rows_all : (lines : List (Option Command)) (i : ℕ) → length lines ≤ i → (text : List ℕ) (replies : List Reply) {all : List ℕ} → text ++ rows_of (drop i lines) replies ≡ all → text ≡ all
rows_all lines i h text replies inv = done text (at_drop_all (λ rest. rows_of rest replies) lines i h) inv
