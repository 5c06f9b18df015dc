-- What the line of a page says of it.
use Rattle.std.specs.Prelude.{ℕ, ◌+◌, ◌/◌, ◌%◌, Bool, cond, not, ◌&&◌, List, [], ◌∷◌, ◌++◌, Some, None, codes, decimal, Option, ◌==◌, nat_le, nat_lt}
use Rattle.std.specs.List.{flat_map}
use Rattle.layout.specs.Page.{Meaning, Erased, Data, Deletion, Register, Bad}

-- The parts of a text, one after the other.
abbrev pub text : List (List ℕ) → List ℕ
text [] = []
text (part ∷ []) = part
text (part ∷ next ∷ parts) = part ++ text (next ∷ parts)

abbrev pub version_text : List ℕ → ℕ → ℕ → List ℕ
version_text kind sector birth = text (kind ∷ codes ", sector " ∷ decimal sector ∷ codes ", birth " ∷ decimal birth ∷ [])

-- Held numbers, with one space between them.
abbrev pub spaced : List ℕ → List ℕ
spaced ns = flat_map (λ n. 32 ∷ decimal n) ns

abbrev pub held_text : List ℕ → List ℕ
held_text [] = codes "none"
held_text (n ∷ ns) = decimal n ++ spaced ns

-- A capital hexadecimal digit.
abbrev pub hex_digit : ℕ → ℕ
hex_digit n = cond (nat_lt n 10) (48 + n) (55 + n)

-- A byte that stands as itself in a label: from 20 to 7E, and neither `"` nor `\`.
abbrev pub is_plain : ℕ → Bool
is_plain b = nat_le 32 b && (nat_le b 126 && (not (b == 34) && not (b == 92)))

-- Any other stands as `\xNN`.
abbrev pub escaped : ℕ → List ℕ
escaped b = cond (is_plain b) (b ∷ []) (92 ∷ 120 ∷ hex_digit (b / 16) ∷ hex_digit (b % 16) ∷ [])

abbrev pub escaped_all : List ℕ → List ℕ
escaped_all bs = flat_map escaped bs

-- A label in double quotes.
abbrev pub quoted : List ℕ → List ℕ
quoted label = (34 ∷ []) ++ escaped_all label ++ (34 ∷ [])

abbrev pub register_text : ℕ → List ℕ → List ℕ → List ℕ
register_text birth held label =
    text (codes "register, birth " ∷ decimal birth ∷ codes ", held " ∷ held_text held ∷ codes ", label " ∷ quoted label ∷ [])

abbrev pub cause_text : ℕ → List ℕ
cause_text cause = text (codes "bad, cause " ∷ decimal cause ∷ [])

-- An erased page has no line.
abbrev pub described : Meaning → Option (List ℕ)
described Erased = None
described (Data sector birth) = Some (version_text (codes "data") sector birth)
described (Deletion sector birth) = Some (version_text (codes "deletion") sector birth)
described (Register birth held label) = Some (register_text birth held label)
described (Bad cause) = Some (cause_text cause)
