-- The report on a chip, over the chip's pages.
use Rattle.std.specs.Prelude.{ℕ, ◌+◌, ◌/◌, ◌%◌, List, [], ◌∷◌, ◌++◌, length, Some, None, codes, decimal, fold, Option}
use Rattle.chip.specs.Pages.{Page}
use Rattle.layout.specs.Page.{Meaning, Erased, Data, Deletion, Register, Bad, meaning}
use Rattle.inspection.specs.Descriptions.{described}
use Rattle.inspection.specs.declared.reports.Tally.{Tally}

-- The parts of a line, one after the other, and the line's end.
abbrev pub line : List (List ℕ) → List ℕ
line [] = 10 ∷ []
line (part ∷ parts) = part ++ line parts

-- What a page is. (Shut, so that it does not compute.)
unfoldable pub kind_of : Page → Meaning
kind_of page = meaning page

module _ (per : ℕ) where
  -- The line of a page, by the page's number and what is said of it.
  abbrev pub page_line : ℕ → Option (List ℕ) → List ℕ
  page_line number None = []
  page_line number (Some words) =
      line (codes "page " ∷ decimal number ∷ codes ", block " ∷ decimal (number / per) ∷ codes ", place " ∷ decimal (number % per) ∷ codes ": " ∷ words ∷ [])

  -- The lines of the pages from a number on.
  abbrev pub page_lines : ℕ → List Page → List ℕ
  page_lines number [] = []
  page_lines number (page ∷ pages) = page_line number (described (kind_of page)) ++ page_lines (number + 1) pages

abbrev pub none : Tally
none = record { erased = 0; versions = 0; deletions = 0; registers = 0; bad = 0 }

-- One page more.
abbrev pub counted : Meaning → Tally → Tally
counted Erased t = record t { erased = t.erased + 1 }
counted (Data s b) t = record t { versions = t.versions + 1 }
counted (Deletion s b) t = record t { deletions = t.deletions + 1 }
counted (Register b held label) t = record t { registers = t.registers + 1 }
counted (Bad cause) t = record t { bad = t.bad + 1 }

abbrev pub total : Tally → ℕ
total t = t.erased + t.versions + t.deletions + t.registers + t.bad

abbrev pub tally_of : List Page → Tally
tally_of pages = fold (λ t page. counted (kind_of page) t) none pages

abbrev pub tally_line : ℕ → Tally → List ℕ
tally_line pages t =
    line (decimal pages ∷ codes " pages: erased " ∷ decimal t.erased ∷ codes ", data " ∷ decimal t.versions ∷ codes ", deletion " ∷ decimal t.deletions ∷ codes ", register " ∷ decimal t.registers ∷ codes ", bad " ∷ decimal t.bad ∷ [])

abbrev pub shape_line : List ℕ → ℕ → ℕ → ℕ → List ℕ
shape_line name blocks per left_over =
    line (name ∷ codes " chip: " ∷ decimal blocks ∷ codes " blocks of " ∷ decimal per ∷ codes " pages, " ∷ decimal left_over ∷ codes " bytes left over" ∷ [])

-- All lines: on the chip's shape, on the pages that are not erased, and on the number of pages.
abbrev pub report_text : List ℕ → ℕ → ℕ → ℕ → List Page → List ℕ
report_text name blocks per left_over pages =
    shape_line name blocks per left_over ++ page_lines per 0 pages ++ tally_line (length pages) (tally_of pages)

-- The same lines, with lines that are given before the number of pages.
abbrev pub report_text_with : List ℕ → ℕ → ℕ → ℕ → List Page → List ℕ → List ℕ
report_text_with name blocks per left_over pages middle =
    shape_line name blocks per left_over ++ page_lines per 0 pages ++ middle ++ tally_line (length pages) (tally_of pages)
