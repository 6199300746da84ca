-- What making a page reader answers: the data and the layout, if that lies in it.
use Rattle.std.specs.Prelude.{ℕ, cond, List, length, Ok, Err, Result}
use Rattle.page.specs.Parts.{lies}
use Rattle.page.specs.declared.layout.Layout.{Layout}
use Rattle.page.specs.declared.refusal.Misplaced.{Misplaced}
use Rattle.page.specs.declared.reader.PageReader.{PageReader}

abbrev pub reader_of : List ℕ → Layout → Result (List ℕ × Layout) Misplaced
reader_of bytes l = cond (lies (length bytes) l) (Ok (bytes, l)) (Err (record {}))

-- what a reader holds
abbrev pub opened : Result PageReader Misplaced → Result (List ℕ × Layout) Misplaced
opened (Ok p) = Ok (p.«data».now, p.layout)
opened (Err e) = Err e
