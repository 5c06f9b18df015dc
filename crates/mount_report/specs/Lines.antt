-- What mount makes of a chip, in lines.
use Rattle.std.specs.Prelude.{◌≡◌, ℕ, zero, suc, true, cond, List, [], ◌∷◌, ◌++◌, reverse, length, codes, decimal, Some, None, Option, ◌==◌}
use Rattle.std.proofs.Math.Option.{Option as Maybe}
use Rattle.std.specs.List.{flat_map}
use Rattle.chip.specs.Pages.{Page}
use Rattle.readings.specs.Versions.{Version, has, Reading}
use Rattle.readings.specs.Sayings.{sayings}
use Rattle.readings.specs.Reading.{reading}
use Rattle.readings.specs.Changes.{present, in_state}
use Rattle.readings.specs.Mount.{capacity, mount_verdict}
use Rattle.rules.specs.Calls.{born_at}
use Rattle.inspection.specs.Descriptions.{text, held_text, quoted}
use Rattle.inspection.specs.Reports.{line}
use Rattle.rules.specs.declared.types.Tick.{Tick}
use Rattle.store.specs.Views.{View, is_open, Sound}

-- A store that is open, with memory that tells what its pages say.
pub record Ready (v : View) : Type 0 where
  pub opens : is_open v ≡ true
  pub sound : Sound v

-- A state that can be listed: the present one, which is None, or that of a held number.
abbrev pub Known : Reading → Option Tick → Type 0
Known r None = Unit {0}
Known r (Some tick) = has tick.0 r.held ≡ true

abbrev pub version_in : Reading → Option Tick → ℕ → Maybe Version
version_in r None sector = present r sector
version_in r (Some tick) sector = in_state r tick.0 sector

-- A sector with the birth of its data, after a space; nothing where it has none.
abbrev pub entry : ℕ → List ℕ → List ℕ
entry sector [] = []
entry sector (birth ∷ more) = text (codes " " ∷ decimal sector ∷ codes "/" ∷ decimal birth ∷ [])

-- The entries of the first n sectors. (Shut, so that it does not compute.)
unfoldable pub entries : Reading → Option Tick → ℕ → List ℕ
entries r state zero = []
entries r state (suc n) = entries r state n ++ entry n (born_at (version_in r state n))

abbrev pub or_none : List ℕ → List ℕ
or_none [] = codes " none"
or_none (b ∷ bs) = b ∷ bs

abbrev pub state_name : Option Tick → List ℕ
state_name None = codes "present"
state_name (Some tick) = text (codes "state " ∷ decimal tick.0 ∷ [])

-- All sectors of a state that hold data.
abbrev pub list_line : Reading → Option Tick → List ℕ
list_line r state = line (state_name state ∷ codes ":" ∷ or_none (entries r state 2048) ∷ [])

abbrev pub granted_line : ℕ → List ℕ → List ℕ → ℕ → ℕ → List ℕ
granted_line clock held label needed cap =
    line (codes "mount: 0, clock " ∷ decimal clock ∷ codes ", held " ∷ held_text held ∷ codes ", label " ∷ quoted label ∷ codes ", needed " ∷ decimal needed ∷ codes " of " ∷ decimal cap ∷ [])

-- A list for each number, in their order.
abbrev pub state_lines : Reading → List ℕ → List ℕ
state_lines r numbers = flat_map (λ n. list_line r (Some (record { 0 = n }))) numbers

-- A chip that reads as r, with capacity `cap`.
abbrev pub opened_text : ℕ → Reading → List ℕ
opened_text cap r =
    granted_line r.clock (reverse r.held) r.label (length r.versions) cap ++ list_line r None ++ state_lines r (reverse r.held)

-- A refusal with its values: none, or a page and a cause.
abbrev pub refusal_line : ℕ → List ℕ → List ℕ
refusal_line number [] = line (codes "mount: " ∷ decimal number ∷ [])
refusal_line number (page ∷ []) = line (codes "mount: " ∷ decimal number ∷ [])
refusal_line number (page ∷ cause ∷ more) =
    line (codes "mount: " ∷ decimal number ∷ codes ", page " ∷ decimal page ∷ codes ", cause " ∷ decimal cause ∷ [])

-- By the verdict of mount on blocks of `per` pages.
abbrev pub mount_text : ℕ → ℕ → List Page → List ℕ
mount_text blocks per pages =
    let verdict = mount_verdict blocks per pages in
    cond (verdict.number == 0) (opened_text (capacity blocks per) (reading (sayings pages))) (refusal_line verdict.number verdict.values)
