use Rattle.std.proofs.Common.{refl}
use Rattle.crc.specs.Crc.{shift, shifts}
use Rattle.crc.proofs.sums.checksum.Goals as goal

pub returns-clause-published : goal.returns-clause-published
unfolding shift shifts
returns-clause-published c = refl
