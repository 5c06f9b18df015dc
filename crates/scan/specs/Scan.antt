-- What a scan over the pages of a chip answers and leaves.
use Rattle.std.specs.Prelude.{◌≡◌, ℕ, ◌+◌, Bool, true, cond, List, [], ◌∷◌, Some, None, Ok, Err, Option, Result, nat_lt}
use Rattle.std.specs.Option as options
use Rattle.chip.specs.Pages as chip
use Rattle.limits.specs.Values.{RegisterValues, register_values}
use Rattle.limits.specs.declared.types.Register.{Register}
use Rattle.layout.specs.Page as layout
use Rattle.layout.specs.Page.{Meaning, meaning, page_meaning, summary, cause_number}
use Rattle.layout.specs.declared.pages.Page.{Page}
use Rattle.scan.specs.declared.BadPage.{BadPage}

-- By what a page means: one value if it is bad, with its cause, and another if it is not.
abbrev pub if_bad : {X : Type 0} → Meaning → (ℕ → X) → X → X
if_bad layout.Erased bad good = good
if_bad (layout.Data s b) bad good = good
if_bad (layout.Deletion s b) bad good = good
if_bad (layout.Register b held label) bad good = good
if_bad (layout.Bad cause) bad good = bad cause

-- Number and cause of the lowest bad page; the first page has the number n.
abbrev pub lowest_bad : ℕ → List chip.Page → Option (ℕ × ℕ)
lowest_bad n [] = None
lowest_bad n (p ∷ ps) = if_bad (meaning p) (λ cause. Some (n, cause)) (lowest_bad (n + 1) ps)

-- The younger of a register, if there is one, and of what a page means; the former one if they are of the same age.
abbrev pub is_younger : ℕ → Option RegisterValues → Bool
is_younger birth None = true
is_younger birth (Some former) = nat_lt former.birth birth

abbrev pub younger : Option RegisterValues → Meaning → Option RegisterValues
younger best layout.Erased = best
younger best (layout.Data s b) = best
younger best (layout.Deletion s b) = best
younger best (layout.Register b held label) = cond (is_younger b best) (Some (record { birth = b; held = held; label = label })) best
younger best (layout.Bad cause) = best

-- The youngest register of the pages, or `best`.
abbrev pub youngest : Option RegisterValues → List chip.Page → Option RegisterValues
youngest best [] = best
youngest best (p ∷ ps) = youngest (younger best (meaning p)) ps

-- Kind, sector and birth of the pages up to the lowest bad one, over what a table held before, as far as it reaches.
abbrev pub tags_read : List chip.Page → List (ℕ × ℕ × ℕ) → List (ℕ × ℕ × ℕ)
tags_read [] ts = ts
tags_read (p ∷ ps) [] = []
tags_read (p ∷ ps) (t ∷ ts) = if_bad (meaning p) (λ _. t ∷ ts) (summary (meaning p) ∷ tags_read ps ts)

-- The youngest register, or number and cause of the lowest bad page.
abbrev pub unless_bad : Option (ℕ × ℕ) → Option RegisterValues → Result (Option RegisterValues) (ℕ × ℕ)
unless_bad None best = Ok best
unless_bad (Some bad) best = Err bad

abbrev pub scanned : List chip.Page → Result (Option RegisterValues) (ℕ × ℕ)
scanned ps = unless_bad (lowest_bad 0 ps) (youngest None ps)

-- What the code's answers mean.
abbrev pub bad_of : BadPage → ℕ × ℕ
bad_of b = (b.page.0, cause_number b.cause)

abbrev pub answer : Result (Option Register) BadPage → Result (Option RegisterValues) (ℕ × ℕ)
answer (Ok found) = Ok (options.option_map register_values found)
answer (Err b) = Err (bad_of b)

-- What one page of the number n answers.
abbrev pub Checked : List ℕ → ℕ → Result Page BadPage → Type 0
Checked p n (Ok x) = page_meaning x ≡ meaning p
Checked p n (Err b) = (b.page.0 ≡ n) × (layout.Bad (cause_number b.cause) ≡ meaning p)
