-- What the answers say in the rows.
use Rattle.std.specs.Prelude.{ℕ, min, Bool, true, false, not, cond, List, [], ◌∷◌, map, filter, Some, None, Ok, Err, vec_items, Option, Result, ◌==◌}
use Rattle.refusals.specs.declared.types.Refusal.{Refusal}
use Rattle.refusals.specs.Numbers.{verdict_of}
use Rattle.bench_lines.specs.declared.replies.Reply as shown
use Rattle.session.specs.declared.requests.Request.{Request}
use Rattle.session.specs.declared.requests.Request.TheVariants.{Mount, Close, Count, Clean, Freeze, Open, Write, Delete, Read, Look, Since, SinceIn, Held, Label, Release, Revert, Keep, Back}
use Rattle.session.specs.declared.requests.Value.{Value}
use Rattle.session.specs.declared.requests.Made.{Made}
use Rattle.session.specs.Requests.{values_of}

-- The value of an answer that has one.
abbrev pub one_in : List ℕ → Option ℕ
one_in [] = None
one_in (x ∷ []) = Some (min x 4294967295)
one_in (x ∷ y ∷ zs) = None

abbrev pub head_of : List ℕ → Option ℕ
head_of [] = None
head_of (b ∷ bs) = Some b

-- The first byte of a sector, where the answer says 1: data.
abbrev pub first_byte : List ℕ → List ℕ → Option ℕ
first_byte [] bytes = None
first_byte (x ∷ []) bytes = cond (x == 1) (head_of bytes) None
first_byte (x ∷ y ∷ zs) bytes = None

abbrev pub is_read : Request → Bool
is_read (Read sector buffer) = true
is_read (Look state sector buffer) = true
is_read Mount = false
is_read Close = false
is_read Count = false
is_read Clean = false
is_read Freeze = false
is_read Open = false
is_read (Write sector given) = false
is_read (Delete sector) = false
is_read (Since sector) = false
is_read (SinceIn state sector) = false
is_read (Held buffer) = false
is_read (Label buffer) = false
is_read (Release state) = false
is_read (Revert state) = false
is_read (Keep state) = false
is_read (Back state) = false

abbrev pub is_close : Request → Bool
is_close Close = true
is_close (Read sector buffer) = false
is_close (Look state sector buffer) = false
is_close Mount = false
is_close Count = false
is_close Clean = false
is_close Freeze = false
is_close Open = false
is_close (Write sector given) = false
is_close (Delete sector) = false
is_close (Since sector) = false
is_close (SinceIn state sector) = false
is_close (Held buffer) = false
is_close (Label buffer) = false
is_close (Release state) = false
is_close (Revert state) = false
is_close (Keep state) = false
is_close (Back state) = false

-- A granted read or look shows the first byte, any other granted call its value.
abbrev pub value_of : Request → Value → List ℕ → Option ℕ
value_of request value bytes = cond (is_read request) (first_byte (values_of value) bytes) (one_in (values_of value))

-- A refusal has a number and no value.
abbrev pub shown_as : Request → Result Value Refusal → List ℕ → shown.Reply
shown_as request (Ok value) bytes = record { number = 0; value = value_of request value bytes }
shown_as request (Err refusal) bytes = record { number = (verdict_of refusal).number; value = None }

abbrev pub reply_to : Made → shown.Reply
reply_to made = shown_as made.request made.reply.outcome (vec_items made.reply.bytes)

-- The close of a remount shows nothing.
abbrev pub replies_to : List Made → List shown.Reply
replies_to ms = map reply_to (filter (λ m. not (is_close m.request)) ms)
