-- The rows that are in use.
use Rattle.std.specs.Prelude.{List, map}
use Rattle.fixed_vec.specs.Items.{items_of}
use Rattle.ramps.specs.Rows.{RampRow}
use Rattle.ramps.specs.View.{row_of}
use Rattle.ramps.specs.declared.rows.Rows.{Rows}

abbrev pub rows_of : Rows → List RampRow
rows_of t = map row_of (items_of t.rows)
