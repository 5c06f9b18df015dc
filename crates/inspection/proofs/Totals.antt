-- Every page of a chip is counted once, so that the counts fit.
use Rattle.std.proofs.Common.{◌≡◌, ℕ, ◌+◌, ◌<◌, List, [], ◌∷◌, length, take, fold, ap, mul-le-mul, arith}
use Rattle.std.proofs.lemmas.List.{length-take}
use Rattle.chip.specs.Pages.{Page, Shape}
use Rattle.layout.specs.Page.{Meaning, Erased, Data, Deletion, Register, Bad}
use Rattle.inspection.specs.Reports.{kind_of, none, counted, total, tally_of}
use Rattle.inspection.specs.declared.reports.Tally.{Tally}

total_counted : (kind : Meaning) (t : Tally) → total (counted kind t) ≡ total t + 1
total_counted Erased t = omega arith
total_counted (Data s b) t = omega arith
total_counted (Deletion s b) t = omega arith
total_counted (Register b held label) t = omega arith
total_counted (Bad cause) t = omega arith

total_from : (t : Tally) (pages : List Page) → total (fold (λ t page. counted (kind_of page) t) t pages) ≡ total t + length pages
total_from t [] = omega arith
total_from t (page ∷ pages) = omega (arith, total_from (counted (kind_of page) t) pages, total_counted (kind_of page) t)

-- The counts fit, of the first pages of a chip.
pub tally_fits : {C : Type 0} {per : ℕ} {blocks : C → ℕ} {pages : C → List Page} (shape : Shape per blocks pages) (chip : C) (i : ℕ) {tally : Tally} → tally ≡ tally_of (take i (pages chip)) → total tally < 2147483648
tally_fits {pages = pages} shape chip i is =
    omega (arith, ap total is, total_from none (take i (pages chip)), length-take i (pages chip), shape.whole chip, mul-le-mul (shape.few chip) shape.most)
