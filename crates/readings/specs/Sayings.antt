-- What the pages of a chip say to a store.
use Rattle.std.specs.Prelude.{ℕ, List, map, take}
use Rattle.chip.specs.Pages.{Page}
use Rattle.layout.specs.Page.{Meaning, Erased, Data, Deletion, Register as Sheet, Bad, meaning}
use Rattle.readings.specs.Versions.{bytes, deleted, Version}

-- What a register page says: its held numbers rise.
pub record Register : Type 0 where
  pub birth : ℕ
  pub held : List ℕ
  pub label : List ℕ

pub data Saying : Type 0 where
  nothing : Saying
  version : Version → Saying
  register : Register → Saying
  bad : (cause : ℕ) → Saying

abbrev pub heard : Meaning → Page → Saying
heard Erased p = nothing
heard (Data s b) p = version (record { sector = s; birth = b; content = bytes (take 512 p) })
heard (Deletion s b) p = version (record { sector = s; birth = b; content = deleted })
heard (Sheet b held label) p = register (record { birth = b; held = held; label = label })
heard (Bad cause) p = bad cause

-- (Shut, so that it does not compute.)
unfoldable pub said : Page → Saying
said p = heard (meaning p) p

abbrev pub sayings : List Page → List Saying
sayings pages = map said pages
