-- What `chunks_exact` gives.
use Rattle.std.proofs.Common.{◌≡◌, ℕ, zero, suc, ◌*◌, ◌<◌, List, ◌++◌, length, take, drop, sym, ap, ◌∙◌, suc-mul, zero-mul, arith}
use Rattle.std.proofs.Math.Seq.{take-append_seam, drop-append_seam}
use Rattle.std.proofs.lemmas.List.{length-append}
use Rattle.std.proofs.lemmas.Iterator.{YieldsList}
use Rattle.std.specs.Iterator.{AlwaysYields}
use Rattle.std.specs.Slice.Iter.{chunks_exact_rest, chunks_exact_size, chunks_exact_steps}
use Rattle.mounting.specs.Blocks.{blocks_of}

module _ {A : Type 0} (per : ℕ) (some : 0 < per) where
  gives : (n : ℕ) (s : _) → chunks_exact_size {T = A} s ≡ per → length (chunks_exact_rest s) ≡ n * per → AlwaysYields (chunks_exact_steps {A = A}) (λ x. x.now) s (blocks_of per n (chunks_exact_rest s))
  gives zero s e l = λ x j h. let a = ap length h.1.0 in let b = length-append x.now (chunks_exact_rest j) in let c = h.1.1 in let z = zero-mul per in omega arith
  gives (suc n) s e l = (
    λ j h. let a = h.1.0 in let m = suc-mul n per in omega arith,
    λ x j h.
        let long : length x.now ≡ per = h.1.1 ∙ e in
        let parts : chunks_exact_rest s ≡ x.now ++ chunks_exact_rest j = h.1.0 in
        let m = suc-mul n per in
        let b = length-append x.now (chunks_exact_rest j) in
        let first : take per (chunks_exact_rest s) ≡ x.now = ap (take per) parts ∙ ap (λ k. take k (x.now ++ chunks_exact_rest j)) (sym long) ∙ take-append_seam x.now (chunks_exact_rest j) in
        let rest : drop per (chunks_exact_rest s) ≡ chunks_exact_rest j = ap (drop per) parts ∙ ap (λ k. drop k (x.now ++ chunks_exact_rest j)) (sym long) ∙ drop-append_seam x.now (chunks_exact_rest j) in
        (sym first, rw rest (gives n j (h.0 ∙ e) (omega (arith, ap length parts)))),
  )

  pub chunks_given : (n : ℕ) (xs : List A) (s : _) → chunks_exact_rest s ≡ xs → chunks_exact_size s ≡ per → length xs ≡ n * per → YieldsList (chunks_exact_steps {A = A}) (λ x. x.now) s (blocks_of per n xs)
  chunks_given n xs s r e l = record { runs = rw (← r) (gives n s e (ap length r ∙ l)) }
