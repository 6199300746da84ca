-- Every encoding's meaning is sound.
use Rattle.std.proofs.Common.{◌≤◌, arith}
use Rattle.bounded.specs.Held.{len}
use Rattle.bounded.specs.declared.bounded_vec.BoundedVec.{BoundedVec}
use Rattle.encoding.specs.Scene.{meaning, Sound}
use Rattle.encoding.specs.declared.encoding.Encoding.{Encoding}

at_most : {T : Type 0} (l : BoundedVec T) → len l ≤ 1000000
at_most l = omega arith

pub sound : (s : Encoding) → Sound (meaning s)
sound s = record {
  patched = s.patched;
  turned = s.turned;
  recorded = s.recorded;
  path_tags = at_most s.path_tags;
  path_data = at_most s.path_data;
  draw_tags = at_most s.draw_tags;
  draw_data = at_most s.draw_data;
  transforms = at_most s.transforms;
  styles = at_most s.styles;
  patches = at_most s.resources.patches;
  stops = at_most s.resources.color_stops;
  glyphs = at_most s.resources.glyphs;
  runs = at_most s.resources.glyph_runs;
  paths = s.few.0;
  segments = s.few.1;
  clips = s.few.2;
  open_clips = s.few.3;
}
