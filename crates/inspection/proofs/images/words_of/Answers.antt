use Rattle.std.proofs.Common.{rules, ◌≡◌, ℕ, zero, suc, ◌+◌, ◌*◌, ◌/◌, List, [], ◌∷◌, map, length, w16, refl, ap, ◌∙◌, arith}
use Rattle.std.specs.Int.{from_le_bytes}
use Rattle.std.specs.Simd.{first_chunks}
use Rattle.std.proofs.lemmas.Result.{IfOk-weaker}
use Rattle.std.proofs.iter.runs.Made.{chains}
use Rattle.inspection.specs.Images.{words_of}
use Rattle.inspection.proofs.images.words_of.Goals as goal

words_of_pairs : (bytes : List ℕ) (n : ℕ) → n ≡ length bytes / 2 → map (from_le_bytes w16) (first_chunks 2 n bytes) ≡ words_of bytes
words_of_pairs [] zero e = refl
words_of_pairs [] (suc n) e = absurd (omega arith)
words_of_pairs (byte ∷ []) zero e = refl
words_of_pairs (byte ∷ []) (suc n) e = absurd (omega arith)
words_of_pairs (low ∷ high ∷ bytes) zero e = absurd (omega arith)
words_of_pairs (low ∷ high ∷ bytes) (suc n) e = ap (λ words. (low + high * 256) ∷ words) (words_of_pairs bytes n (omega arith))

pub returns : goal.returns
returns c =
    let bytes = c.args.bytes.now in
    IfOk-weaker c.collect.result _ _ (λ words is. is ∙ words_of_pairs bytes (length bytes / 2) refl) (search (rules, chains))
