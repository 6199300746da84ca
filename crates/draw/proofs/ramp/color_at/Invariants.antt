use Rattle.std.proofs.Common.{◌≡◌, length}
use Rattle.draw.specs.Ramp.{walk, color_at}
use Rattle.draw.proofs.ramp.color_at.Given as goal

-- the walk over the stops that are left gives the colour
abbrev pub invariant-loop-following : goal.invariant-loop-following
invariant-loop-following l = walk l.u l.earlier l.color l.following ≡ color_at l.u l.stops

abbrev pub decreases-loop-following : goal.decreases-loop-following
decreases-loop-following l = length l.following
