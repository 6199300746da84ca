-- What a cache holds.
use Rattle.std.specs.Prelude.{List, Ok, Err, Result}
use Rattle.ramps.specs.Rows.{RampRow, Chosen}
use Rattle.ramps.specs.Held.{rows_of}
use Rattle.ramps.specs.declared.fault.RampFault.{RampFault}
use Rattle.ramps.specs.declared.ramp_cache.RampCache.{RampCache}
use Rattle.ramps.specs.declared.rows.Rows.{Rows}

abbrev pub rows_in : RampCache → List RampRow
rows_in c = rows_of c.rows

-- the rows of an answer
abbrev pub chosen : Result Rows RampFault → Chosen
chosen (Ok t) = Ok (rows_of t)
chosen (Err f) = Err f
