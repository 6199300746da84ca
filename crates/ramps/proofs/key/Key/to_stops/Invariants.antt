use Rattle.std.proofs.Common.{◌≡◌, map, take}
use Rattle.draw.specs.Color.{stop_of}
use Rattle.fixed_vec.specs.Items.{items_of}
use Rattle.ramps.specs.View.{key_of}
use Rattle.ramps.proofs.key.Key.to_stops.Given as goal

abbrev pub invariant-loop-stop : goal.invariant-loop-stop
invariant-loop-stop l = items_of l.stops ≡ map stop_of (take l.stop-index (key_of l.self))
