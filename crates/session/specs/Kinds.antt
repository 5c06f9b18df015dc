-- Which kind of value each request is granted.
use Rattle.std.specs.Prelude.{◌≡◌, Bool, true, false, Ok, Err, Result}
use Rattle.refusals.specs.declared.types.Refusal.{Refusal}
use Rattle.session.specs.declared.requests.Request.{Request}
use Rattle.session.specs.declared.requests.Request.TheVariants.{Mount, Close, Count, Clean, Freeze, Open, Write, Delete, Read, Look, Since, SinceIn, Held, Label, Release, Revert, Keep, Back}
use Rattle.session.specs.declared.requests.Value.{Value}
use Rattle.session.specs.declared.requests.Value.TheVariants as value
use Rattle.session.specs.declared.requests.Made.{Made}

-- A request can be refused, or be granted a value of its kind.
abbrev pub can_answer : Request → Result Value Refusal → Bool
can_answer request (Err refusal) = true
can_answer Mount (Ok (value.Tick clock)) = true
can_answer Close (Ok value.Nothing) = true
can_answer Count (Ok (value.Count counted)) = true
can_answer Clean (Ok (value.Size reclaimed)) = true
can_answer Freeze (Ok (value.Tick number)) = true
can_answer Open (Ok (value.Tick number)) = true
can_answer (Write sector given) (Ok (value.Tick clock)) = true
can_answer (Delete sector) (Ok (value.Tick clock)) = true
can_answer (Read sector buffer) (Ok (value.Holding holding)) = true
can_answer (Look state sector buffer) (Ok (value.Holding holding)) = true
can_answer (Since sector) (Ok (value.Since birth)) = true
can_answer (SinceIn state sector) (Ok (value.Since birth)) = true
can_answer (Held buffer) (Ok (value.Size filled)) = true
can_answer (Label buffer) (Ok (value.Size filled)) = true
can_answer (Release state) (Ok (value.Tick clock)) = true
can_answer (Revert state) (Ok (value.Tick clock)) = true
can_answer (Keep state) (Ok (value.Tick clock)) = true
can_answer (Back state) (Ok (value.Tick clock)) = true
can_answer request (Ok other) = false

abbrev pub OfItsKind : Made → Type 0
OfItsKind made = can_answer made.request made.reply.outcome ≡ true
