use Rattle.std.proofs.Common.{◌≡◌, take}
use Rattle.fixed_vec.specs.Items.{items_of}
use Rattle.ramps.proofs.key.Key.new.Given as goal

abbrev pub invariant-loop-stop : goal.invariant-loop-stop
invariant-loop-stop l = items_of l.key ≡ take l.stop-index l.stops
