-- The data of a register, as `read_register` cuts them.
use Rattle.std.proofs.Common.{◌≡◌, ℕ, ◌+◌, ◌-◌, ◌*◌, ◌≤◌, true, false, cond, List, [], ◌∷◌, length, take, drop, Some, sym, ap, ◌∙◌, arith}
use Rattle.std.proofs.lemmas.List.{length-take}
use Rattle.std.proofs.lemmas.Slice.{between_is}
use Rattle.limits.specs.Numbers.{rising}
use Rattle.layout.specs.Bytes.{all_zero, u16_at, words}
use Rattle.layout.specs.Parts.{register_kinds, end_of, part_at, fits}
use Rattle.layout.specs.Page.{Register, Bad, register_with_end, register_meaning}
use Rattle.layout.specs.declared.parts.PartKind.TheVariants as kind
use Rattle.layout.proofs.Pairs.{first_pair, at_most}

pub record Bounds (p : List ℕ) (e : ℕ) : Type 0 where
  pub start : u16_at p 0 ≡ 8
  pub held : fits kind.Held (u16_at p 2) ≡ true
  pub next : u16_at p 4 ≡ 8 + u16_at p 2
  pub label : fits kind.Label (u16_at p 6) ≡ true
  pub end : 8 + u16_at p 2 + u16_at p 6 ≡ e
  pub few : u16_at p 2 ≤ 32
  pub short : u16_at p 6 ≤ 32

pub bounds : (p : List ℕ) (e : ℕ) → end_of register_kinds p ≡ Some e → Bounds p e
bounds p e h =
    let a = first_pair kind.Held (kind.Label ∷ []) p 0 8 e h in
    let b = first_pair kind.Label [] p 4 (8 + u16_at p 2) e a.rest in
    let s : Some (8 + u16_at p 2 + u16_at p 6) ≡ Some e = b.rest in
    record {
      start = a.starts;
      held = a.can;
      next = b.starts;
      label = b.can;
      end = cc;
      few = at_most kind.Held (u16_at p 2) a.can;
      short = at_most kind.Label (u16_at p 6) b.can;
    }

pub length_part : (p : List ℕ) (n m : ℕ) → u16_at p (4 * n + 2) ≤ m → length (part_at p n) ≤ m
length_part p n m h = omega (arith, length-take (u16_at p (4 * n + 2)) (drop (u16_at p (4 * n)) p))

-- h and l are the parts, and e is where they end
module _ (b : ℕ) (p : List ℕ) (e : ℕ) (h l : List ℕ) (end : Some e ≡ end_of register_kinds p) (eh : h ≡ part_at p 0) (el : l ≡ part_at p 1) (good : true ≡ rising 0 b (words h)) where
  rises : rising 0 b (words (part_at p 0)) ≡ true
  rises = ap (λ x. rising 0 b (words x)) (sym eh) ∙ sym good

  pub meaning_tail : false ≡ all_zero (take (512 - e) (drop e p)) → Bad 34 ≡ register_meaning b p
  meaning_tail k =
      let z : all_zero (drop e (take 512 p)) ≡ false = ap all_zero (sym (between_is p e 512)) ∙ sym k in
      sym (λ i. cond (rises i) (cond (z i) (Register b (words (part_at p 0)) (part_at p 1)) (Bad 34)) (Bad 33)) ∙ (λ i. register_with_end (end i) b p)

  pub meaning_register : true ≡ all_zero (take (512 - e) (drop e p)) → Register b (words h) l ≡ register_meaning b p
  meaning_register k =
      let z : all_zero (drop e (take 512 p)) ≡ true = ap all_zero (sym (between_is p e 512)) ∙ sym k in
      (λ i. Register b (words (eh i)) (el i))
      ∙ sym (λ i. cond (rises i) (cond (z i) (Register b (words (part_at p 0)) (part_at p 1)) (Bad 34)) (Bad 33))
      ∙ (λ i. register_with_end (end i) b p)
