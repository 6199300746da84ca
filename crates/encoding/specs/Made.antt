-- Lists as make leaves them.
use Rattle.bounded.specs.Held.{Fresh}
use Rattle.records.specs.declared.scene.Capacities.{Capacities}
use Rattle.encoding.specs.declared.encoding.Resources.{Resources}

pub record FreshResources (r : Resources) (w : Capacities) : Type 0 where
  pub patches : Fresh r.patches w.patches
  pub stops : Fresh r.color_stops w.color_stops
  pub glyphs : Fresh r.glyphs w.glyphs
  pub runs : Fresh r.glyph_runs w.glyph_runs
