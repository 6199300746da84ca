use Rattle.std.proofs.Common.{◌/◌, sym, ap, ◌∙◌, arith}
use lib.Bits.{bit_xor}
use Rattle.crc.proofs.Shifts.{by_table}
use Rattle.crc.proofs.sums.next.Goals as goal

pub returns : goal.returns
returns c =
    ap (bit_xor (c.args.state / 256)) c.entry.ensures ∙ sym (by_table c.args.state c.args.byte (omega arith))
