-- What append makes of an entry of the other scene, and what a gradient makes of a stop.
use Rattle.std.specs.Prelude.{ℕ, ◌+◌, ◌≤◌, Some, None, Option, Float}
use Rattle.math.specs.Product.{times}
use Rattle.math.specs.declared.transform.Transform.{Transform}
use Rattle.draw.specs.Color.{faded, bits_of}
use Rattle.draw.specs.declared.color.ColorStop.{ColorStop}
use Rattle.draw.specs.declared.color.StopBits.{StopBits}
use Rattle.records.specs.declared.patch.Patch.{Patch}
use Rattle.records.specs.declared.patch.Patch.TheVariants.{Ramp, GlyphRun as Run, Image}
use Rattle.records.specs.declared.glyph.GlyphRun.{GlyphRun}
use Rattle.records.specs.declared.glyph.RunAttributes.{RunAttributes}
use Rattle.records.specs.declared.glyph.StreamOffsets.{StreamOffsets}

-- lengths recorded in a scene that stands after one with the lengths of base
abbrev pub past : StreamOffsets → StreamOffsets → StreamOffsets
past base a = record {
  path_tags = a.path_tags + base.path_tags;
  path_data = a.path_data + base.path_data;
  draw_tags = a.draw_tags + base.draw_tags;
  draw_data = a.draw_data + base.draw_data;
  transforms = a.transforms + base.transforms;
  styles = a.styles + base.styles;
}

-- what the given transform, if any, makes of one: a product from the left
abbrev pub under : Option Transform → Transform → Transform
under None x = x
under (Some t) x = times t x

abbrev pub moved_patch : ℕ → ℕ → ℕ → Patch → Patch
moved_patch words stops runs (Ramp o a b e) = Ramp (o + words) (a + stops) (b + stops) e
moved_patch words stops runs (Run i) = Run (i + runs)
moved_patch words stops runs (Image o id w h) = Image (o + words) id w h

abbrev pub moved_attributes : Option Transform → RunAttributes → RunAttributes
moved_attributes t a = record {
  font = a.font;
  style = a.style;
  font_size = a.font_size;
  transform = under t a.transform;
  glyph_transform = a.glyph_transform;
  brush_transform = a.brush_transform;
}

abbrev pub moved_run : Option Transform → StreamOffsets → ℕ → GlyphRun → GlyphRun
moved_run t base glyphs r = record {
  attributes = moved_attributes t r.attributes;
  glyphs_start = r.glyphs_start + glyphs;
  glyphs_end = r.glyphs_end + glyphs;
  stream_offsets = past base r.stream_offsets;
}

-- a stop as a gradient stores it
abbrev pub stored_stop : Float → ColorStop → StopBits
stored_stop alpha s = bits_of (faded alpha s)

-- numbers that a shift leaves far from the end of their types
abbrev pub SmallPatch : Patch → Type 0
SmallPatch (Ramp o a b e) = (o ≤ 1000000) × (a ≤ 1000000) × (b ≤ 1000000)
SmallPatch (Run i) = i ≤ 1000000
SmallPatch (Image o id w h) = o ≤ 1000000

pub record SmallOffsets (a : StreamOffsets) : Type 0 where
  pub path_tags : a.path_tags ≤ 1000000
  pub path_data : a.path_data ≤ 1000000
  pub draw_tags : a.draw_tags ≤ 1000000
  pub draw_data : a.draw_data ≤ 1000000
  pub transforms : a.transforms ≤ 1000000
  pub styles : a.styles ≤ 1000000

pub record SmallRun (r : GlyphRun) : Type 0 where
  pub start : r.glyphs_start ≤ 1000000
  pub end : r.glyphs_end ≤ 1000000
  pub offsets : SmallOffsets r.stream_offsets
