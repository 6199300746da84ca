-- The state that a corner atlas is in.
use Rattle.atlas.specs.Corner.{Cornered}
use Rattle.atlas.specs.declared.corner_atlas.CornerAtlas.{CornerAtlas}

abbrev pub cornered : CornerAtlas → Cornered
cornered a = record { side = a.square.side; slots = a.square.slots }
