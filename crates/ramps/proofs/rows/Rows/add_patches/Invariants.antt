use Rattle.std.proofs.Common.{◌≡◌, drop}
use Rattle.ramps.specs.Rows.{added_from}
use Rattle.ramps.specs.Held.{rows_of}
use Rattle.ramps.proofs.rows.Rows.add_patches.Given as goal

-- what is left, from the rows so far, gives the whole
abbrev pub invariant-loop-i : goal.invariant-loop-i
invariant-loop-i l =
    added_from l.page l.stops 0 l.patches (rows_of l.initial.self) ≡ added_from l.page l.stops l.i (drop l.i l.patches) (rows_of l.self)
