use Rattle.std.proofs.Common.{arith, length-take}
use Rattle.std.proofs.Math.Seq.{take-set-lt}
use Rattle.fixed_vec.proofs.fixed_vec.FixedVec.set.Goals as goal

pub returns : goal.returns
returns g c = let v = c.args.self.now in let n = length-take v.len v.items in take-set-lt v.len v.items c.args.at c.args.item (omega arith)
