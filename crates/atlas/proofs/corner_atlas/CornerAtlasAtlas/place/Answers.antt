-- What the search answers is what the kind gives, and the least free place.
use Rattle.std.proofs.Common.{sym, ◌∙◌}
use Rattle.atlas.specs.CornerView.{cornered}
use Rattle.atlas.specs.CornerLaw.{found_free}
use Rattle.atlas.proofs.corner_atlas.CornerAtlasAtlas.place.Goals as goal

pub put-requires-clause-inside : goal.put-requires-clause-inside
put-requires-clause-inside c = (found_free (cornered c.args.self.now) c.args.width c.args.height c.in_ok-x.x c.in_ok-x.y (sym c.first_free.ensures ∙ c.in_ok-x.was)).inside

pub put-requires-clause-apart : goal.put-requires-clause-apart
put-requires-clause-apart c = (found_free (cornered c.args.self.now) c.args.width c.args.height c.in_ok-x.x c.in_ok-x.y (sym c.first_free.ensures ∙ c.in_ok-x.was)).clear
