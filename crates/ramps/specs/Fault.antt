-- The number of a fault, and its values.
use Rattle.std.specs.Prelude.{ℕ, List, [], ◌∷◌}
use Rattle.ramps.specs.declared.fault.RampFault.{RampFault}
use Rattle.ramps.specs.declared.fault.RampFault.TheVariants.{Full}

-- the question that is answered with no, and the index of the patch at which it was asked
abbrev pub question_of : RampFault → ℕ × List ℕ
question_of (Full patch) = (10, patch ∷ [])
