-- A session under way, one call on.
use Rattle.std.proofs.Common.{◌≡◌, ℕ, suc, ◌+◌, ◌≤◌, Bool, true, false, cond, eqb, List, [], ◌∷◌, ◌++◌, All, map, reverse, length, Some, None, Option, Result, sym, refl, ap, ◌∙◌, subst, inl, inr, arith, length-append}
use mathlib.Core.List.{reverse-append}
use Rattle.std.proofs.lemmas.List.{map_push, length-map, append_assoc, nil_from_length}
use Rattle.std.proofs.lemmas.List.Sums.{sum_by-append}
use Rattle.std.proofs.lemmas.List.Elements.{All-same, All-push}
use Rattle.std.proofs.lemmas.Bool.{cases_eq, true≢false}
use Rattle.refusals.specs.declared.types.Refusal.{Refusal}
use Rattle.rules.specs.Calls.{Call, mount, close, count, clean, freeze, open_slip, write, delete, read, look, since, since_in, ask_held, ask_label, release, revert, keep_slip, back_slip, Answer}
use Rattle.rules.specs.Told.{told}
use Rattle.line.specs.Line.{Event, first_or}
use Rattle.store.specs.Views.{View, is_open, Sound}
use Rattle.store.specs.Deeds.{Changes, Cleans, Closes, Mounts, Does}
use Rattle.store.specs.declared.slips.Slip.{Slip}
use Rattle.session.specs.declared.blank.Blank.{Blank}
use Rattle.session.specs.declared.requests.Request.{Request}
use Rattle.session.specs.declared.requests.Value.{Value}
use Rattle.session.specs.declared.requests.Made.{Made}
use Rattle.session.specs.Requests.{call_of, calls_of, values_of, answer_of, event_of, events_of, gives_slip, opens_by, opens_in}
use Rattle.session.specs.Slips.{without, slips_by, can_call, slip_number, slip_numbers}
use Rattle.session.specs.Blanks.{blank_call, blank_calls}
use Rattle.session.specs.Turns.{Called, LeftOut, Turn}
use Rattle.session.specs.Kinds.{OfItsKind}
use Rattle.session.specs.Sessions.{called, left_out}
use Rattle.session.specs.Stages.{Stage, Goes}
use Rattle.session.proofs.Piles.{took_first}

-- An open store stays sound, and the chip as large as it was.
record Kept (v w : View) : Type 0 where
  sound : is_open w ≡ true → Sound w
  blocks : w.blocks ≡ v.blocks

abbrev Good : View → Type 0
Good v = is_open v ≡ true → Sound v

kept_same : (v w : View) → Good v → w ≡ v → Kept v w
kept_same v w g e = subst (λ (z : View). Kept v z) (sym e) (record { sound = g; blocks = refl })

changes_kept : (c : Call) (v w : View) (a : Answer) → Good v → Changes c v a w → Kept v w
changes_kept c v w a g d = go (is_open v) refl
  where
    go : (b : Bool) → is_open v ≡ b → Kept v w
    go true o = let f = d.open? o (g o) in record { sound = λ _. f.sound; blocks = f.same_size.blocks }
    go false o = kept_same v w g (d.closed o).1

cleans_kept : (v w : View) (a : Answer) → Good v → Cleans v a w → Kept v w
cleans_kept v w a g d = go (is_open v) refl
  where
    go : (b : Bool) → is_open v ≡ b → Kept v w
    go true o = let f = d.open? o (g o) in record { sound = λ _. f.sound; blocks = f.same_size.blocks }
    go false o = kept_same v w g (d.closed o).1

closes_kept : (v w : View) (a : Answer) → Good v → Closes v a w → Kept v w
closes_kept v w a g d = go (is_open v) refl
  where
    go : (b : Bool) → is_open v ≡ b → Kept v w
    go true o = let f = d.open? o in record { sound = λ e. absurd (true≢false (sym e ∙ f.2)); blocks = f.1.same_size.blocks }
    go false o = kept_same v w g (d.closed o).1

mounts_kept : (v w : View) (a : Answer) → Good v → Mounts v a w → Kept v w
mounts_kept v w a g d =
    elim (cases_eq a.number 0) [
      | inl e ↦ let f = d.granted e in record { sound = λ _. f.sound; blocks = f.same_chip.same_size.blocks }
      | inr ne ↦ kept_same v w g (d.refusal ne)
    ]

does_kept : (c : Call) (v w : View) (a : Answer) → Good v → Does c v a w → Kept v w
does_kept mount v w a g d = mounts_kept v w a g d
does_kept close v w a g d = closes_kept v w a g d
does_kept clean v w a g d = cleans_kept v w a g d
does_kept freeze v w a g d = changes_kept freeze v w a g d
does_kept open_slip v w a g d = changes_kept open_slip v w a g d
does_kept (write s given) v w a g d = changes_kept (write s given) v w a g d
does_kept (delete s) v w a g d = changes_kept (delete s) v w a g d
does_kept (release n) v w a g d = changes_kept (release n) v w a g d
does_kept (revert n) v w a g d = changes_kept (revert n) v w a g d
does_kept (keep_slip n) v w a g d = changes_kept (keep_slip n) v w a g d
does_kept (back_slip n) v w a g d = changes_kept (back_slip n) v w a g d
does_kept count v w a g d = kept_same v w g d.1
does_kept (read s buffer) v w a g d = kept_same v w g d.1
does_kept (look n s buffer) v w a g d = kept_same v w g d.1
does_kept (since s) v w a g d = kept_same v w g d.1
does_kept (since_in n s) v w a g d = kept_same v w g d.1
does_kept (ask_held buffer) v w a g d = kept_same v w g d.1
does_kept (ask_label buffer) v w a g d = kept_same v w g d.1

-- a call that was made
pub on_called : (c : Call) (a : Answer) (es : List Event) (v w : View) (ns ms : List ℕ) → Called c v ns a w ms → Goes (c ∷ []) es v ns (record { call = c; answer = a } ∷ es) w ms
on_called c a es v w ns ms t label blocks cs st =
    let k = does_kept c v w a st.sound t.does in
    record {
      history = (v, st.history, t.does);
      followed = called c a (sym (ap (can_call c) st.slips) ∙ t.in_hand) st.followed;
      slips = t.slips ∙ ap (slips_by c a) st.slips;
      sound = k.sound;
      blocks_are = k.blocks ∙ st.blocks_are;
    }

-- a call that was left out
pub on_left_out : (c : Call) (es : List Event) (v w : View) (ns ms : List ℕ) → LeftOut c v ns w ms → Goes (c ∷ []) es v ns es w ms
on_left_out c es v w ns ms t label blocks cs st =
    subst (λ (z : View). Stage label blocks (c ∷ cs) es z ms) (sym t.store)
    (record {
      history = st.history;
      followed = left_out c (sym (ap (can_call c) st.slips) ∙ t.not_in_hand) st.followed;
      slips = t.slips ∙ st.slips;
      sound = st.sound;
      blocks_are = st.blocks_are;
    })

-- one element more at the end, mapped and turned round
pub reverse_push : {A B : Type 0} (f : A → B) (xs : List A) (x : A) → reverse (map f (xs ++ x ∷ [])) ≡ f x ∷ reverse (map f xs)
reverse_push f xs x = ap reverse (map_push f xs x) ∙ reverse-append (map f xs) (f x ∷ [])

-- one request more, from the end
pub blanks_more : (rest others : List Request) (q : Request) (b : Blank) (bs cs : List Blank) (all : List Call) → rest ≡ others ++ q ∷ [] → b.request ≡ q → cs ≡ bs ++ b ∷ [] → blank_calls bs ++ calls_of rest ≡ all → blank_calls cs ++ calls_of others ≡ all
blanks_more rest others q b bs cs all rest-is for pushed inv =
    let calls = ap blank_calls pushed ∙ map_push blank_call bs b ∙ ap (λ r. blank_calls bs ++ call_of r ∷ []) for in
    let left = ap calls_of rest-is ∙ reverse_push call_of others q in
    ap (λ cs. cs ++ calls_of others) calls ∙ append_assoc (blank_calls bs) (call_of q ∷ []) (calls_of others) ∙ ap (λ cs. blank_calls bs ++ cs) (sym left) ∙ inv

opens_push : (cs : List Call) (c : Call) → opens_in (cs ++ c ∷ []) ≡ opens_in cs + opens_by c
opens_push cs c = sum_by-append (λ k. cond (gives_slip k) 1 0) cs (c ∷ [])

without_length : (n : ℕ) (ns : List ℕ) → length (without n ns) ≤ length ns
without_length n [] = omega arith
without_length n (m ∷ ns) =
    let h = without_length n ns in
    elim (eqb n m) as (λ b. length (cond b ns (m ∷ without n ns)) ≤ suc (length ns)) [ true ↦ omega arith | false ↦ omega arith ]

-- how many slips a call can bring
pub slips_bound : (c : Call) (a : Answer) (ns : List ℕ) → length (slips_by c a ns) ≤ length ns + opens_by c
slips_bound open_slip a ns =
    let h = length-append ns (first_or 0 a.values ∷ []) in
    elim (eqb a.number 0) as (λ b. length (cond b (ns ++ first_or 0 a.values ∷ []) ns) ≤ length ns + 1) [ true ↦ omega arith | false ↦ omega arith ]
slips_bound (keep_slip n) a ns = let h = without_length n ns in omega arith
slips_bound (back_slip n) a ns = let h = without_length n ns in omega arith
slips_bound mount a ns = omega arith
slips_bound close a ns = omega arith
slips_bound count a ns = omega arith
slips_bound clean a ns = omega arith
slips_bound freeze a ns = omega arith
slips_bound (write s given) a ns = omega arith
slips_bound (delete s) a ns = omega arith
slips_bound (read s buffer) a ns = omega arith
slips_bound (look n s buffer) a ns = omega arith
slips_bound (since s) a ns = omega arith
slips_bound (since_in n s) a ns = omega arith
slips_bound (ask_held buffer) a ns = omega arith
slips_bound (ask_label buffer) a ns = omega arith
slips_bound (release n) a ns = omega arith
slips_bound (revert n) a ns = omega arith

-- the pile after a turn
pub pile_bound : (c : Call) (v w : View) (buffer : List ℕ) (o : Option (Result Value Refusal)) (ss ts : List Slip) → Turn c v (slip_numbers ss) buffer o w (slip_numbers ts) → length ts ≤ length ss + opens_by c
pile_bound c v w buffer (Some outcome) ss ts turn =
    let p = length-map ss slip_number in
    let q = length-map ts slip_number in
    let r : length (slip_numbers ts) ≡ length (slips_by c (told values_of buffer outcome) (slip_numbers ss)) = ap length turn.slips in
    let s = slips_bound c (told values_of buffer outcome) (slip_numbers ss) in
    omega arith
pile_bound c v w buffer None ss ts turn =
    let p = length-map ss slip_number in
    let q = length-map ts slip_number in
    let r : length (slip_numbers ts) ≡ length (slip_numbers ss) = ap length turn.slips in
    omega arith

-- a call that was made and noted
pub on_made : (v w : View) (ns ms : List ℕ) (before after : List Made) (m : Made) (a : Answer) → after ≡ before ++ m ∷ [] → answer_of m.reply ≡ a → Called (call_of m.request) v ns a w ms → Goes (call_of m.request ∷ []) (events_of before) v ns (events_of after) w ms
on_made v w ns ms before after m a pushed is t label blocks cs st =
    let c = call_of m.request in
    let es-are : events_of after ≡ record { call = c; answer = a } ∷ events_of before = ap events_of pushed ∙ reverse_push event_of before m ∙ ap (λ (z : Answer). record { call = c; answer = z } ∷ events_of before) is in
    subst (λ (es : List Event). Stage label blocks (c ∷ cs) es w ms) (sym es-are) (on_called c a (events_of before) v w ns ms t label blocks cs st)

pub both : {ks bs cs ds : List ℕ} → ks ≡ bs → cs ≡ ds → ks ++ cs ≡ bs ++ ds
both {bs = bs} {cs = cs} e f = ap (λ z. z ++ cs) e ∙ ap (λ z. bs ++ z) f

-- one more call of its kind
pub one_more : (before after : List Made) (m : Made) → after ≡ before ++ m ∷ [] → All OfItsKind before → OfItsKind m → All OfItsKind after
one_more before after m pushed all one = All-same OfItsKind after _ pushed (All-push OfItsKind before m all one)

-- one call after others
pub goes_on : (c : Call) (more : List Call) (es fs hs : List Event) (u v w : View) (ls ns ms : List ℕ) → Goes more es u ls fs v ns → Goes (c ∷ []) fs v ns hs w ms → Goes (c ∷ more) es u ls hs w ms
goes_on c more es fs hs u v w ls ns ms g h label blocks cs st = h label blocks (more ++ cs) (g label blocks cs st)

-- the last blank taken off
module _ (bs rest : List Blank) (b : Blank) (popped : bs ≡ rest ++ b ∷ []) where
  pub calls_popped : blank_calls bs ≡ blank_calls rest ++ blank_call b ∷ []
  calls_popped = ap blank_calls popped ∙ map_push blank_call rest b

  pub opens_popped : opens_in (blank_calls bs) ≡ opens_in (blank_calls rest) + opens_by (blank_call b)
  opens_popped = ap opens_in calls_popped ∙ opens_push (blank_calls rest) (blank_call b)

  pub split_popped : (all more : List Call) → all ≡ blank_calls bs ++ more → all ≡ blank_calls rest ++ (blank_call b ∷ more)
  split_popped all more e = e ∙ ap (λ z. z ++ more) calls_popped ∙ append_assoc (blank_calls rest) (blank_call b ∷ []) more

pub goes_as : (all more : List Call) (es fs : List Event) (u w : View) (ls ms : List ℕ) → all ≡ more → Goes more es u ls fs w ms → Goes all es u ls fs w ms
goes_as all more es fs u w ls ms e g label blocks cs st = subst (λ (z : List Call). Stage label blocks (z ++ cs) fs w ms) (sym e) (g label blocks cs st)

-- no blank is left
pub none_left : (bs : List Blank) (n : ℕ) (all more : List Call) → n ≡ length bs → n ≡ 0 → all ≡ blank_calls bs ++ more → all ≡ more
none_left bs n all more n-is none e = e ∙ ap (λ z. blank_calls z ++ more) (nil_from_length bs (sym n-is ∙ none))

-- the first slip of the pile, kept
pub first_kept : (v w : View) (ss rest : List Slip) (slip : Slip) (n : ℕ) (a b : Answer) → ss ≡ slip ∷ rest → n ≡ slip_number slip → a ≡ b → Changes (keep_slip (slip_number slip)) v b w → Called (keep_slip n) v (slip_numbers ss) a w (slip_numbers rest)
first_kept v w ss rest slip n a b top number told d =
    let took = took_first slip rest in
    rw (top, number, told) (record { in_hand = took.has_it; does = d; slips = took.leaves })

-- no slip is left
pub goes_to_none : (more : List Call) (es fs : List Event) (u w : View) (ls : List ℕ) (ss : List Slip) {n : ℕ} → n ≡ length ss → n ≡ 0 → Goes more es u ls fs w (slip_numbers ss) → Goes more es u ls fs w []
goes_to_none more es fs u w ls ss n-is none g label blocks cs st =
    subst (λ (z : List Slip). Stage label blocks (more ++ cs) fs w (slip_numbers z)) (nil_from_length ss (sym n-is ∙ none)) (g label blocks cs st)
