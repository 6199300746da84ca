-- The empty square's side and slots.
use Rattle.atlas.proofs.corner_atlas.CornerAtlasAtlas.new.Goals as goal

pub returns : goal.returns
returns c = cc
