use Rattle.std.proofs.Common.{arith}
use Rattle.changing.proofs.Adding.{data_says}
use Rattle.changing.proofs.data_image.Goals as goal

pub returns : goal.returns
returns c =
    let b = c.next_birth-birth.result in
    record {
      says = λ blocks per pages can.
          data_says blocks per pages c.args.ix.now can b.number c.next_birth-birth.ensures c.args.sector.number c.args.sector.last _ c.args.given.now (omega arith) b.first b.last
          c.write_data.ensures.writes;
    }
