use Rattle.std.proofs.Common.{length, ap, arith}
use Rattle.encoding.proofs.Empty.{patched_none, turned_none, recorded_none}
use Rattle.encoding.proofs.encoding.Encoding.make.Goals as goal

pub invariant_of-result : goal.invariant_of-result
invariant_of-result c =
    let rs = c.in_ok-make-7.ensures in
    let z = c.default.ensures in record { few = (omega (arith, z), omega (arith, z), omega (arith, z), omega (arith, z)); patched = patched_none _ _ rs.patches.items; turned = turned_none (ap length rs.runs.items) rs.patches.items; recorded = recorded_none _ _ rs.runs.items }
