-- The samples of the rows, and the sheet that has them all.
use Rattle.std.specs.Prelude.{◌≡◌, ℕ, ◌-◌, ◌*◌, List, ◌++◌, map, length, take, drop, replicate}
use Rattle.std.specs.List.{flat_map}
use Rattle.draw.specs.Color.{stop_of}
use Rattle.draw.specs.Ramp.{samples}
use Rattle.draw.specs.declared.color.StopBits.{StopBits}
use Rattle.ramps.specs.Rows.{RampRow}

abbrev pub samples_of : List StopBits → List ℕ
samples_of k = samples (map stop_of k)

abbrev pub row_words : RampRow → List ℕ
row_words r = samples_of r.key

-- 96 rows of 512 words, one after the other; the words of rows that are not in use are 0
abbrev pub sheet_of : List RampRow → List ℕ
sheet_of rs = flat_map row_words rs ++ replicate (49152 - 512 * length rs) 0

-- the words of row i
abbrev pub part : ℕ → List ℕ → List ℕ
part i words = take 512 (drop (512 * i) words)

-- the first samples are those of the rows
abbrev pub Drawn : List RampRow → List (List ℕ) → Type 0
Drawn rs all = take (length rs) all ≡ map row_words rs
