use Rattle.std.proofs.Common.{◌-◌, ◌++◌, length, drop, replicate, sym, ap, ◌∙◌, arith}
use Rattle.std.proofs.lemmas.Bool.{eqb-true}
use Rattle.std.proofs.lemmas.List.{drop-replicate, length-take-le}
use Rattle.limits.specs.Values.{items_of}
use Rattle.calls.proofs.queries.list.Goals as goal

pub returns : goal.returns
returns g c =
    let given = c.args.given.now in
    let zero = c.args.zero in
    let long = length-take-le given.len given.items (omega (arith, given.room, given.few)) in
    let size = eqb-true (length c.args.buffer.now) g.row.MOST c.in_ok-check_length.ensures in
    record {
      fits = c.in_ok-check_length.ensures;
      long = sym long;
      lists =
          ap (λ xs. xs ++ drop given.len c.fill.new.self) (c.copy_from_slice.ensures.after ∙ c.as_slice.ensures)
          ∙ ap (λ xs. items_of given ++ xs)
          (ap (drop given.len) (c.fill.ensures.after c.requires.1 ∙ ap (λ n. replicate n zero) size) ∙ drop-replicate given.len g.row.MOST zero ∙ ap (λ n. replicate (g.row.MOST - n) zero) (sym long));
    }
