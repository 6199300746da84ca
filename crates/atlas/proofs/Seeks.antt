-- What a search of the code seeks.
use Rattle.atlas.specs.declared.search.Search.{Search}
use Rattle.atlas.specs.Corners.{Sought}

abbrev pub sought : Search → Sought
sought s = record { side = s.side; slots = s.slots.now; width = s.width; height = s.height }
