-- Without the shelves that are passed, from the last up, as many stand.
use Rattle.std.proofs.Common.{◌≡◌, length}
use Rattle.atlas.specs.Shelf.{depth, standing}
use Rattle.atlas.proofs.square.Square.standing.Given as goal

abbrev pub invariant-loop-last : goal.invariant-loop-last
invariant-loop-last l = record { deep : l.end ≡ depth l.stack; same : standing l.self.slots 0 l.shelves ≡ standing l.self.slots 0 l.stack }

abbrev pub decreases-loop-last : goal.decreases-loop-last
decreases-loop-last l = length l.stack
