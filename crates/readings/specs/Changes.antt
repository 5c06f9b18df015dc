-- What a reading shows, and how it changes.
use Rattle.std.specs.Prelude.{ℕ, suc, true, not, List, [], ◌∷◌, ◌==◌, nat_le, nat_lt}
use Rattle.std.proofs.Math.Option.{Option}
use Rattle.readings.specs.Versions.{Version, now, upto, youngest, Reading, leave}

-- The last clock, and the greatest sector.
abbrev pub last_clock : ℕ
last_clock = 4294967294

abbrev pub last_sector : ℕ
last_sector = 2047

-- The present version of a sector, and that in the state of a held number.
abbrev pub present : Reading → ℕ → Option Version
present r s = youngest now s r.versions

abbrev pub in_state : Reading → ℕ → ℕ → Option Version
in_state r n s = youngest (upto n) s r.versions

-- After a freeze: the new clock is held.
abbrev pub frozen : Reading → Reading
frozen r = record { label = r.label; clock = suc r.clock; held = suc r.clock ∷ r.held; versions = r.versions }

-- After a release of n: its number leaves.
abbrev pub released : ℕ → Reading → Reading
released n r = leave (λ m. not (m == n)) (λ b. true) r

-- After a revert to n: versions born after n leave, and so do greater held numbers.
abbrev pub reverted : ℕ → Reading → Reading
reverted n r = leave (λ m. nat_le m n) (λ b. nat_le b n) r

-- After a back to n: the number itself leaves too.
abbrev pub backed : ℕ → Reading → Reading
backed n r = leave (λ m. nat_lt m n) (λ b. nat_le b n) r

-- A freshly formatted store.
abbrev pub fresh : List ℕ → Reading
fresh text = record { label = text; clock = 1; held = []; versions = [] }
