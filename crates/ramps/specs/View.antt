-- What a key and a row hold.
use Rattle.std.specs.Prelude.{List}
use Rattle.draw.specs.declared.color.StopBits.{StopBits}
use Rattle.fixed_vec.specs.Items.{items_of}
use Rattle.ramps.specs.Rows.{RampRow, used_on}
use Rattle.ramps.specs.declared.key.Key.{Key}
use Rattle.ramps.specs.declared.rows.Row.{Row}

abbrev pub key_of : Key → List StopBits
key_of k = items_of k.stops

abbrev pub row_of : Row → RampRow
row_of r = used_on r.last_use (key_of r.key)
