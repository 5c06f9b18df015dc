-- Held numbers.
use Rattle.std.specs.Prelude.{ℕ, not, List, ◌==◌}
use Rattle.readings.specs.Versions.{keep}

-- All numbers but n.
abbrev pub without : ℕ → List ℕ → List ℕ
without n ns = keep (λ m. not (m == n)) ns
