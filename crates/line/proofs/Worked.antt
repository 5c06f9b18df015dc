-- The worked cases, by computation.
use Rattle.std.proofs.Common.{◌≡◌, ℕ, zero, suc, not, eqb, List, [], ◌∷◌, length, replicate, refl, ap, ◌∙◌}
use Rattle.std.specs.List.{AllByRecursion}
use Rattle.std.proofs.lemmas.Bool.{eq-eqb, cond-false, not_from_true}
use Rattle.readings.specs.Versions.{bytes, keep, any, first, needed, settle, Reading}
use Rattle.rules.specs.Calls.{Call, mount, close, count, clean, freeze, open_slip, write, delete, read, look, since, since_in, ask_held, ask_label, release, revert, keep_slip, back_slip, Answer, Outcome, shown, read_answer, check_sector, check_length, check_held, adding, tell, rule}
use Rattle.readings.specs.Changes.{fresh, present, in_state}
use Rattle.line.specs.Cases.{answers, after, writes, Worked, Cases}

-- a sector's bytes and buffers have 512
abbrev Fits : Call → Type 0
Fits (write s given) = length given ≡ 512
Fits (read s buffer) = length buffer ≡ 512
Fits (look n s buffer) = length buffer ≡ 512
Fits mount = Unit {0}
Fits close = Unit {0}
Fits count = Unit {0}
Fits clean = Unit {0}
Fits freeze = Unit {0}
Fits open_slip = Unit {0}
Fits (delete s) = Unit {0}
Fits (since s) = Unit {0}
Fits (since_in n s) = Unit {0}
Fits (ask_held buffer) = Unit {0}
Fits (ask_label buffer) = Unit {0}
Fits (release n) = Unit {0}
Fits (revert n) = Unit {0}
Fits (keep_slip n) = Unit {0}
Fits (back_slip n) = Unit {0}

-- the rule without the length of a sector
fitted : ℕ → Call → Reading → Outcome
fitted cap (write s given) r = let c = write s given in check_sector cap c r s (adding cap c r s (bytes given))
fitted cap (read s buffer) r = let c = read s buffer in check_sector cap c r s (tell cap c r (read_answer (shown (present r s))))
fitted cap (look n s buffer) r = let c = look n s buffer in check_sector cap c r s (check_held cap c r n (tell cap c r (read_answer (shown (in_state r n s)))))
fitted cap mount r = rule cap mount r
fitted cap close r = rule cap close r
fitted cap count r = rule cap count r
fitted cap clean r = rule cap clean r
fitted cap freeze r = rule cap freeze r
fitted cap open_slip r = rule cap open_slip r
fitted cap (delete s) r = rule cap (delete s) r
fitted cap (since s) r = rule cap (since s) r
fitted cap (since_in n s) r = rule cap (since_in n s) r
fitted cap (ask_held buffer) r = rule cap (ask_held buffer) r
fitted cap (ask_label buffer) r = rule cap (ask_label buffer) r
fitted cap (release n) r = rule cap (release n) r
fitted cap (revert n) r = rule cap (revert n) r
fitted cap (keep_slip n) r = rule cap (keep_slip n) r
fitted cap (back_slip n) r = rule cap (back_slip n) r

length_fits : (cap : ℕ) (c : Call) (r : Reading) (xs : List ℕ) (o : Outcome) → length xs ≡ 512 → check_length cap c r 512 xs o ≡ o
length_fits cap c r xs o h = cond-false (not (eqb (length xs) 512)) _ _ (not_from_true _ (eq-eqb (length xs) 512 h))

fitting : (cap : ℕ) (c : Call) (r : Reading) → Fits c → rule cap c r ≡ fitted cap c r
unfolding rule fitted
fitting cap (write s given) r h = let c = write s given in ap (check_sector cap c r s) (length_fits cap c r given _ h)
fitting cap (read s buffer) r h = let c = read s buffer in ap (check_sector cap c r s) (length_fits cap c r buffer _ h)
fitting cap (look n s buffer) r h = let c = look n s buffer in ap (check_sector cap c r s) (length_fits cap c r buffer _ h)
fitting cap mount r h = refl
fitting cap close r h = refl
fitting cap count r h = refl
fitting cap clean r h = refl
fitting cap freeze r h = refl
fitting cap open_slip r h = refl
fitting cap (delete s) r h = refl
fitting cap (since s) r h = refl
fitting cap (since_in n s) r h = refl
fitting cap (ask_held buffer) r h = refl
fitting cap (ask_label buffer) r h = refl
fitting cap (release n) r h = refl
fitting cap (revert n) r h = refl
fitting cap (keep_slip n) r h = refl
fitting cap (back_slip n) r h = refl

answers_fitted : ℕ → Reading → List Call → List Answer
answers_fitted cap r [] = []
answers_fitted cap r (c ∷ cs) = (fitted cap c r).answer ∷ answers_fitted cap (fitted cap c r).left cs

after_fitted : ℕ → Reading → List Call → Reading
after_fitted cap r [] = r
after_fitted cap r (c ∷ cs) = after_fitted cap (fitted cap c r).left cs

answers_fit : (cap : ℕ) (r : Reading) (cs : List Call) → AllByRecursion Fits cs → answers cap r cs ≡ answers_fitted cap r cs
unfolding answers answers_fitted
answers_fit cap r [] h = refl
answers_fit cap r (c ∷ cs) h = ap (λ (o : Outcome). o.answer ∷ answers cap o.left cs) (fitting cap c r h.0) ∙ ap (λ more. (fitted cap c r).answer ∷ more) (answers_fit cap (fitted cap c r).left cs h.1)

after_fit : (cap : ℕ) (r : Reading) (cs : List Call) → AllByRecursion Fits cs → after cap r cs ≡ after_fitted cap r cs
unfolding after after_fitted
after_fit cap r [] h = refl
after_fit cap r (c ∷ cs) h = ap (λ (o : Outcome). after cap o.left cs) (fitting cap c r h.0) ∙ after_fit cap (fitted cap c r).left cs h.1

writes_fit : (s n : ℕ) (given : List ℕ) → length given ≡ 512 → AllByRecursion Fits (writes s n given)
unfolding writes
writes_fit s zero given h = tt
writes_fit s (suc n) given h = (h, writes_fit (suc s) n given h)

after_after : (cap : ℕ) (r : Reading) (cs ds : List Call) → AllByRecursion Fits cs → AllByRecursion Fits ds → after cap (after cap r cs) ds ≡ after_fitted cap (after_fitted cap r cs) ds
after_after cap r cs ds h k = ap (λ q. after cap q ds) (after_fit cap r cs h) ∙ after_fit cap (after_fitted cap r cs) ds k

-- the answers after some calls
both_fit : (r : Reading) (cs ds : List Call) → AllByRecursion Fits cs → AllByRecursion Fits ds → answers 22 (after 22 r cs) ds ≡ answers_fitted 22 (after_fitted 22 r cs) ds
both_fit r cs ds h k = ap (λ q. answers 22 q ds) (after_fit 22 r cs h) ∙ answers_fit 22 (after_fitted 22 r cs) ds k

worked : (label a b buffer : List ℕ) → length a ≡ 512 → length b ≡ 512 → length buffer ≡ 512 → Worked label a b buffer
unfolding keep first needed settle rule fitted answers_fitted after_fitted writes
worked label a b buffer h k l = record {
  fresh_clock = refl;
  fresh_count = answers_fit 22 (fresh label) (count ∷ []) (tt, tt);
  look_into_frozen_state = answers_fit 22 (fresh label) (write 5 a ∷ freeze ∷ write 5 b ∷ look 3 5 buffer ∷ count ∷ []) (h, (tt, (k, (l, (tt, tt)))));
  state_stands_again = both_fit (fresh label) (write 5 a ∷ freeze ∷ write 5 b ∷ []) (revert 3 ∷ read 5 buffer ∷ count ∷ []) (h, (tt, (k, tt))) (tt, (l, (tt, tt)));
  newer_state_is_gone = both_fit (fresh label) (write 5 a ∷ freeze ∷ write 5 b ∷ revert 3 ∷ []) (write 5 b ∷ freeze ∷ revert 3 ∷ look 7 5 buffer ∷ [])
      (h, (tt, (k, (tt, tt)))) (k, (tt, (tt, (l, tt))));
  released_state_is_gone = both_fit (fresh label) (write 5 a ∷ freeze ∷ write 5 b ∷ revert 3 ∷ write 5 b ∷ freeze ∷ revert 3 ∷ []) (release 3 ∷ revert 3 ∷ [])
      (h, (tt, (k, (tt, (k, (tt, (tt, tt))))))) (tt, (tt, tt));
  refused_revert_ticks_not = ap (λ (r : Reading). r.clock) (after_after 22 (fresh label) (write 5 a ∷ freeze ∷ write 5 b ∷ revert 3 ∷ write 5 b ∷ freeze ∷ revert 3 ∷ []) (release 3 ∷ revert 3 ∷ [])
      (h, (tt, (k, (tt, (k, (tt, (tt, tt))))))) (tt, (tt, tt)));
  full = both_fit (fresh label) (writes 0 22 a) (count ∷ write 0 b ∷ write 22 b ∷ freeze ∷ write 0 a ∷ delete 0 ∷ []) (writes_fit 0 22 a h)
      (tt, (k, (k, (tt, (h, (tt, tt))))));
  deletion = answers_fit 22 (fresh label) (write 4 a ∷ delete 4 ∷ count ∷ read 4 buffer ∷ delete 7 ∷ []) (h, (tt, (tt, (l, (tt, tt)))));
  trial_taken_back = answers_fit 22 (fresh label) (open_slip ∷ write 1 a ∷ back_slip 2 ∷ read 1 buffer ∷ ask_held (replicate 8 255) ∷ []) (tt, (h, (tt, (l, (tt, tt)))));
}

pub cases : Cases
cases = (worked, record { least = refl; four_blocks = refl; one_block = λ pages. refl })
