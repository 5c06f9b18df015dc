-- Which versions and pages the numbers give.
use Rattle.std.specs.Prelude.{ℕ, List, Option}
use Rattle.std.specs.Option.{option_map, option_and_then}
use Rattle.limits.specs.Numbers.{within}
use Rattle.limits.specs.Values.{RegisterValues, up_to, register_from}
use Rattle.limits.specs.declared.types.Version.{Version}
use Rattle.layout_write.specs.Written as written

-- A version's sector and birth.
abbrev pub numbers_of : Version → ℕ × ℕ
numbers_of v = (v.sector.number, v.birth.number)

-- Both numbers, if each is within its limits.
abbrev pub version_from : ℕ → ℕ → Option (ℕ × ℕ)
version_from sector birth = option_and_then (λ s. option_map (λ b. (s, b)) (within 1 4294967294 birth)) (within 0 2047 sector)

abbrev pub data_page_from : ℕ → ℕ → List ℕ → Option (List ℕ)
data_page_from sector birth bytes = option_map (λ v. written.data_page v.0 v.1 bytes) (version_from sector birth)

abbrev pub deletion_page_from : ℕ → ℕ → Option (List ℕ)
deletion_page_from sector birth = option_map (λ v. written.deletion_page v.0 v.1) (version_from sector birth)

-- What the register holds, if birth, held numbers and label are within their limits and the held numbers rise.
abbrev pub values_from : ℕ → List ℕ → List ℕ → Option RegisterValues
values_from birth held label = option_and_then (λ h. option_and_then (λ l. option_and_then (λ b. register_from b h l) (within 1 4294967294 birth)) (up_to 32 label)) (up_to 8 held)

abbrev pub register_page_from : ℕ → List ℕ → List ℕ → Option (List ℕ)
register_page_from birth held label = option_map (λ r. written.register_page r.birth r.held r.label) (values_from birth held label)
