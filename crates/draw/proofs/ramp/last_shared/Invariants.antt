use Rattle.std.proofs.Common.{◌≡◌, drop}
use Rattle.draw.specs.Ramp.{last_shared}
use Rattle.draw.proofs.ramp.last_shared.Given as goal

-- the stops that are left give the colour of them all
abbrev pub invariant-loop-stop : goal.invariant-loop-stop
invariant-loop-stop l =
    last_shared l.u l.effective (drop l.stop-index l.following) l.last ≡ last_shared l.u l.offset l.following l.initial.last
