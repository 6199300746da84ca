-- The empty square's side and slots, and no shelf.
use Rattle.atlas.proofs.shelf_atlas.ShelfAtlasAtlas.new.Goals as goal

pub returns : goal.returns
returns c = cc
