use Rattle.std.proofs.Common.{true, arith}
use Rattle.std.proofs.lemmas.Fmt.{hex_byte}
use Rattle.inspection.proofs.descriptions.push_escaped.Goals as goal

pub returns : goal.returns
returns c =
    let hex = hex_byte true c.args.byte (omega arith) in
    let write = rw (c.in_radix.ensures, c.laid_out.ensures, hex) at c.write.ensures.bytes in
    rw (← c.if-is_plain.ensures) write
