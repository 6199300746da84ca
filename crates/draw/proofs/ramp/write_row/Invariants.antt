use Rattle.draw.specs.Ramp.{sample_of}
use Rattle.draw.proofs.Filled.{Filled}
use Rattle.draw.proofs.ramp.write_row.Given as goal

abbrev pub invariant-loop-i : goal.invariant-loop-i
invariant-loop-i l = Filled (sample_of l.stops) l.initial.row l.i l.row
