use Rattle.std.proofs.Common.{◌≡◌, ℕ, ◌+◌, ◌-◌, ◌≤◌, List, length, get_or, drop, take, replicate, inl, inr, arith, length-take, length-drop, drop-drop}
use borrow.Rule.Slice.PartMut.{put_mid, mid_of}
use Rattle.tables.specs.declared.types.Record.{Record}
use Rattle.tables.specs.Records.{unused}
use Rattle.moving.specs.Moves.{forgotten_at}
use Rattle.moving.proofs.Places.{in_or_out, is_out, is_in_lem}
use Rattle.moving.proofs.Erasures.{filled_in, filled_out}
use Rattle.moving.proofs.forget.Goals as goal

forgotten : (rs ys : List Record) (u : Record) (from n m k : ℕ) → u ≡ unused → m ≡ n → from + n ≤ length rs → ys ≡ replicate (length (mid_of from m rs)) u →
    get_or (put_mid from m rs ys) k unused ≡ forgotten_at rs from n k
forgotten rs ys u from n m k is e h filled =
    let long : length (take n (drop from rs)) ≡ n = simp (length-take, length-drop) (omega arith) in
    rw (filled, e, long, is, drop-drop) (elim (in_or_out from n k) [
      | inl x ↦ rw (x.2, is_in_lem from n (from + x.0) (let l = x.1 in omega arith) (let l = x.1 in omega arith)) (filled_in rs unused unused from n h x.0 x.1)
      | inr o ↦ rw (is_out from n k o) (filled_out rs unused unused from n h k o)
    ])

pub returns-clause-records : goal.returns-clause-records
returns-clause-records c k =
    forgotten c.args.ix.now.records c.fill.new.self c.unused_record.result c.args.from c.args.n (c.args.from + c.args.n - c.args.from) k
    c.unused_record.ensures (omega arith) (omega (arith, c.args.ix.now.long)) (c.fill.ensures.after (λ y e. e))
