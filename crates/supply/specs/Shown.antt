-- What a lent outline shows.
use Rattle.supply.specs.Meaning.{Shape}
use Rattle.supply.specs.declared.outline.Outline.{Outline}

abbrev pub shape_of : Outline → Shape
shape_of o = record { tags = o.tags.now; words = o.words.now; styles = o.styles.now }
