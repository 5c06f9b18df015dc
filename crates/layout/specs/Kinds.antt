-- The kinds of programmed pages, by their bytes in the tag.
use Rattle.std.specs.Prelude.{◌≡◌, ℕ, ◌<◌, ◌⊎◌, Result, MatchResult}
use Rattle.layout.specs.declared.pages.PageKind.{PageKind}
use Rattle.layout.specs.declared.pages.PageKind.TheVariants as kind
use Rattle.layout.specs.declared.pages.UnknownKind.{UnknownKind}

abbrev pub byte_of : PageKind → ℕ
byte_of kind.Data = 1
byte_of kind.Deletion = 2
byte_of kind.Register = 3

-- The kind with this byte, or an error with a byte that no kind has.
abbrev pub Decodes : ℕ → Result PageKind UnknownKind → Type 0
Decodes byte r = MatchResult r (λ k. byte_of k ≡ byte) (λ e. (e.0 ≡ byte) × ((byte < 1) ⊎ (3 < byte)))
