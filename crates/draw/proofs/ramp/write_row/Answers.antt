use Rattle.std.proofs.Common.{◌≡◌, min, length, arith}
use Rattle.draw.specs.Ramp.{sample_of}
use Rattle.draw.proofs.Filled.{filled_more, filled_all, filled_whole}
use Rattle.draw.proofs.ramp.write_row.Goals as goal

pub loop-i-preserved : goal.loop-i-preserved
loop-i-preserved c =
    filled_more (sample_of c.args.stops.now) c.args.row.now c.loop-i.i c.loop-i.row c.sample.result (omega arith) c.loop-i.invariant c.sample.ensures

pub returns : goal.returns
returns c =
    let e : c.loop-i.i ≡ min (length c.args.row.now) 512 = omega arith in
    record {
      is = filled_all (sample_of c.args.stops.now) c.args.row.now 512 c.loop-i.i c.loop-i.row e c.loop-i.invariant;
      whole = λ w. filled_whole (sample_of c.args.stops.now) c.args.row.now 512 c.loop-i.i c.loop-i.row e w c.loop-i.invariant;
    }
