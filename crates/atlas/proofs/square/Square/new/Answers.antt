-- An empty square has no rectangle.
use Rattle.std.proofs.Common.{arith}
use Rattle.atlas.specs.SlotFacts.{sound_none}
use Rattle.atlas.proofs.square.Square.new.Goals as goal

pub invariant_of-result : goal.invariant_of-result
invariant_of-result c = record { sound = sound_none c.min.result (omega arith) }
