use Rattle.changing.proofs.Adding.{deletion_says}
use Rattle.changing.proofs.deletion_image.Goals as goal

pub returns : goal.returns
returns c =
    let b = c.next_birth-birth.result in
    record {
      says = λ blocks per pages can.
          deletion_says blocks per pages c.args.ix.now can b.number c.next_birth-birth.ensures c.args.sector.number c.args.sector.last _ b.first b.last c.write_deletion.ensures.writes;
    }
