-- No row above y has a free place.
use Rattle.std.proofs.Common.{◌≡◌, ℕ, ◌+◌, ◌-◌, ◌<◌, None}
use Rattle.atlas.specs.Corner.{in_row}
use Rattle.atlas.proofs.search.Search.least_place.Given as goal

abbrev pub invariant-loop-y : goal.invariant-loop-y
invariant-loop-y l = (k : ℕ) → k < l.y → in_row l.self.side l.self.slots.now l.self.width l.self.height k ≡ None

abbrev pub decreases-loop-y : goal.decreases-loop-y
decreases-loop-y l = (l.self.side + 1) - l.y
