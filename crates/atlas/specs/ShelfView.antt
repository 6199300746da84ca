-- The state that a shelf atlas is in.
use Rattle.fixed_vec.specs.Items.{items_of}
use Rattle.atlas.specs.Shelf.{Shelved}
use Rattle.atlas.specs.declared.shelf_atlas.ShelfAtlas.{ShelfAtlas}

abbrev pub shelved : ShelfAtlas → Shelved
shelved a = record { side = a.square.side; shelves = items_of a.shelves; slots = a.square.slots }
