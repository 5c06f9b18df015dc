-- The calls that blanks are for.
use Rattle.std.specs.Prelude.{List, map}
use Rattle.rules.specs.Calls.{Call}
use Rattle.session.specs.declared.blank.Blank.{Blank}
use Rattle.session.specs.Requests.{call_of}

abbrev pub blank_call : Blank → Call
blank_call b = call_of b.request

abbrev pub blank_calls : List Blank → List Call
blank_calls bs = map blank_call bs
