use Rattle.std.proofs.Common.{◌≡◌, ◌∷◌, take, string_bytes}
use Rattle.inspection.specs.Descriptions.{escaped_all}
use Rattle.inspection.proofs.descriptions.label_text.Given as goal

abbrev pub invariant-loop-byte : goal.invariant-loop-byte
invariant-loop-byte l = string_bytes l.text ≡ 34 ∷ escaped_all (take l.byte-index l.label)
