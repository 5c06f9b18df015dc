-- What the arguments of the program ask for.
use Rattle.std.specs.Prelude.{ℕ, cond, List, [], ◌∷◌, Some, None, Ok, Err, codes, Option, Result}
use Rattle.std.specs.Str.{bytes_eq}
use Rattle.inspection.specs.declared.arguments.Make.{Make}
use Rattle.inspection.specs.declared.arguments.Make.TheVariants.{Nand, Nor}
use Rattle.inspection.specs.declared.arguments.Request.{Request}
use Rattle.inspection.specs.declared.arguments.UsageFault.{UsageFault}
use Rattle.inspection.specs.declared.arguments.UsageFault.TheVariants.{ArgumentCount, UnknownMake}

abbrev pub name_of : Make → List ℕ
name_of Nand = codes "nand"
name_of Nor = codes "nor"

abbrev pub make_of : List ℕ → Option Make
make_of name = cond (bytes_eq name (name_of Nand)) (Some Nand) (cond (bytes_eq name (name_of Nor)) (Some Nor) None)

-- A make, and the bytes of a file's name.
abbrev pub Asked : Type 0
Asked = Result (Make × List ℕ) UsageFault

abbrev pub asked : Result Request UsageFault → Asked
asked (Ok request) = Ok (request.make, request.file.now)
asked (Err fault) = Err fault

-- The two arguments after the program's name, of all arguments by their bytes.
abbrev pub operands_of : List (List ℕ) → Option (List ℕ × List ℕ)
operands_of [] = None
operands_of (program ∷ []) = None
operands_of (program ∷ make ∷ []) = None
operands_of (program ∷ make ∷ file ∷ []) = Some (make, file)
operands_of (program ∷ make ∷ file ∷ other ∷ others) = None

abbrev pub of_make : Option Make → List ℕ → Asked
of_make None file = Err UnknownMake
of_make (Some make) file = Ok (make, file)

abbrev pub of_operands : Option (List ℕ × List ℕ) → Asked
of_operands None = Err ArgumentCount
of_operands (Some operands) = of_make (make_of operands.0) operands.1

abbrev pub request_of : List (List ℕ) → Asked
request_of arguments = of_operands (operands_of arguments)
