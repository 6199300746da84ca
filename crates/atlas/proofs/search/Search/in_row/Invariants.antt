-- No place of the row to the left of x is free.
use Rattle.std.proofs.Common.{◌≡◌, ℕ, ◌+◌, ◌-◌, ◌<◌, false}
use Rattle.atlas.specs.Corner.{free_at}
use Rattle.atlas.proofs.search.Search.in_row.Given as goal

abbrev pub invariant-loop-x : goal.invariant-loop-x
invariant-loop-x l = (k : ℕ) → k < l.x → free_at l.self.side l.self.slots.now l.self.width l.self.height l.y k ≡ false

abbrev pub decreases-loop-x : goal.decreases-loop-x
decreases-loop-x l = (l.self.side + 1) - l.x
