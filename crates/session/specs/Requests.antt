-- What was asked and answered, as a call and an answer of the rules.
use Rattle.std.specs.Prelude.{ℕ, Bool, true, false, List, [], ◌∷◌, ◌++◌, map, reverse, count_by, vec_items}
use Rattle.rules.specs.Calls.{Call, mount, close, count, clean, freeze, open_slip, write, delete, read, look, since, since_in, ask_held, ask_label, release, revert, keep_slip, back_slip, Answer}
use Rattle.rules.specs.Told.{told, tick_value, holding_value, since_value, count_value, size_value}
use Rattle.line.specs.Line.{Event}
use Rattle.session.specs.declared.requests.Request.{Request}
use Rattle.session.specs.declared.requests.Request.TheVariants.{Mount, Close, Count, Clean, Freeze, Open, Write, Delete, Read, Look, Since, SinceIn, Held, Label, Release, Revert, Keep, Back}
use Rattle.session.specs.declared.requests.Value.{Value}
use Rattle.session.specs.declared.requests.Value.TheVariants as value
use Rattle.session.specs.declared.requests.Reply.{Reply}
use Rattle.session.specs.declared.requests.Made.{Made}

abbrev pub call_of : Request → Call
call_of Mount = mount
call_of Close = close
call_of Count = count
call_of Clean = clean
call_of Freeze = freeze
call_of Open = open_slip
call_of (Write sector given) = write sector.0 given.now
call_of (Delete sector) = delete sector.0
call_of (Read sector buffer) = read sector.0 buffer.now
call_of (Look state sector buffer) = look state.0 sector.0 buffer.now
call_of (Since sector) = since sector.0
call_of (SinceIn state sector) = since_in state.0 sector.0
call_of (Held buffer) = ask_held buffer.now
call_of (Label buffer) = ask_label buffer.now
call_of (Release state) = release state.0
call_of (Revert state) = revert state.0
call_of (Keep state) = keep_slip state.0
call_of (Back state) = back_slip state.0

abbrev pub values_of : Value → List ℕ
values_of (value.Tick t) = tick_value t
values_of (value.Holding h) = holding_value h
values_of (value.Since t) = since_value t
values_of (value.Count c) = count_value c
values_of (value.Size n) = size_value n
values_of value.Nothing = []

-- Number and values, with the buffer afterwards.
abbrev pub answer_of : Reply → Answer
answer_of reply = told values_of (vec_items reply.bytes ++ vec_items reply.numbers) reply.outcome

abbrev pub event_of : Made → Event
event_of made = record { call = call_of made.request; answer = answer_of made.reply }

-- Latest first.
abbrev pub calls_of : List Request → List Call
calls_of requests = reverse (map call_of requests)

abbrev pub events_of : List Made → List Event
events_of made = reverse (map event_of made)

-- The buffer that is handed over: bytes or, for held, numbers.
abbrev pub bytes_of : Request → List ℕ
bytes_of (Read sector buffer) = buffer.now
bytes_of (Look state sector buffer) = buffer.now
bytes_of (Label buffer) = buffer.now
bytes_of Mount = []
bytes_of Close = []
bytes_of Count = []
bytes_of Clean = []
bytes_of Freeze = []
bytes_of Open = []
bytes_of (Write sector given) = []
bytes_of (Delete sector) = []
bytes_of (Since sector) = []
bytes_of (SinceIn state sector) = []
bytes_of (Held buffer) = []
bytes_of (Release state) = []
bytes_of (Revert state) = []
bytes_of (Keep state) = []
bytes_of (Back state) = []

abbrev pub numbers_of : Request → List ℕ
numbers_of (Held buffer) = buffer.now
numbers_of Mount = []
numbers_of Close = []
numbers_of Count = []
numbers_of Clean = []
numbers_of Freeze = []
numbers_of Open = []
numbers_of (Write sector given) = []
numbers_of (Delete sector) = []
numbers_of (Read sector buffer) = []
numbers_of (Look state sector buffer) = []
numbers_of (Since sector) = []
numbers_of (SinceIn state sector) = []
numbers_of (Label buffer) = []
numbers_of (Release state) = []
numbers_of (Revert state) = []
numbers_of (Keep state) = []
numbers_of (Back state) = []

-- Whether a call can bring a slip.
abbrev pub gives_slip : Call → Bool
gives_slip open_slip = true
gives_slip mount = false
gives_slip close = false
gives_slip count = false
gives_slip clean = false
gives_slip freeze = false
gives_slip (write s given) = false
gives_slip (delete s) = false
gives_slip (read s buffer) = false
gives_slip (look n s buffer) = false
gives_slip (since s) = false
gives_slip (since_in n s) = false
gives_slip (ask_held buffer) = false
gives_slip (ask_label buffer) = false
gives_slip (release n) = false
gives_slip (revert n) = false
gives_slip (keep_slip n) = false
gives_slip (back_slip n) = false

-- How many slips calls can bring: 1 for an open.
abbrev pub opens_in : List Call → ℕ
opens_in cs = count_by gives_slip cs

abbrev pub opens_by : Call → ℕ
opens_by c = opens_in (c ∷ [])
