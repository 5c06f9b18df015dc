-- Why the program prints no rows.
use Rattle.std.specs.Prelude.{ℕ, List, codes}
use Rattle.session.specs.declared.requests.Halt.{Halt}
use Rattle.session.specs.declared.requests.Halt.TheVariants as halt
use Rattle.bench_calls.specs.declared.runs.BenchFault.{BenchFault}
use Rattle.bench_calls.specs.declared.runs.BenchFault.TheVariants.{NoMemory, NotFormatted}

abbrev pub fault_of : Halt → BenchFault
fault_of halt.NoMemory = NoMemory
fault_of (halt.Refused refusal) = NotFormatted

abbrev pub fault_text : BenchFault → List ℕ
fault_text NoMemory = codes "no memory"
fault_text NotFormatted = codes "the chip can't be formatted"
