use Rattle.std.proofs.Common.{map, take}
use Rattle.bounded.specs.Held.{Extends}
use Rattle.bounded.proofs.mapping.extend_mapped.Given as goal

abbrev pub invariant-loop-x : goal.invariant-loop-x
invariant-loop-x g l = Extends l.initial.to l.to (map (g.M.Mapping.image l.by) (take l.x-index l.from))
