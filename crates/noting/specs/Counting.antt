-- How many versions are needed.
use Rattle.std.specs.Prelude.{ℕ, suc, ◌+◌, cond, get_or, take, Some, None, Option}
use Rattle.chip.specs.declared.PageNumber.{PageNumber}
use Rattle.limits.specs.Values.{held_of}
use Rattle.tables.specs.declared.index.Index.{Index}
use Rattle.tables.specs.Records as records
use Rattle.tables.specs.Records.{unused}
use Rattle.noting.specs.Lookups.{present_page}

abbrev pub needed_count : Index → ℕ
needed_count ix = records.needed_count (held_of ix.held) (take ix.pages ix.records)

-- What a write adds to the count: 1, unless the version that it replaces is needed no more.
abbrev pub growth : Index → Option PageNumber → ℕ
growth ix None = 1
growth ix (Some p) = cond (records.held_between (held_of ix.held) (get_or ix.records p.0 unused).birth (suc ix.clock)) 1 0

abbrev pub needed_after : Index → ℕ → ℕ
needed_after ix s = needed_count ix + growth ix (present_page ix s)
