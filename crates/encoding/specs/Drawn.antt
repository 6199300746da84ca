-- The scene after a gradient, a picture or a run, and what each asks.
use Rattle.std.specs.Prelude.{ℕ, ◌+◌, Bool, true, ◌&&◌, List, [], ◌∷◌, ◌++◌, map, length, Option, nat_le, to_bits, Float}
use Rattle.std.specs.Float.{float_is_finite, binary32}
use Rattle.math.specs.Product.{at}
use Rattle.draw.specs.Color.{color_word, faded}
use Rattle.draw.specs.declared.color.ColorStop.{ColorStop}
use Rattle.draw.specs.declared.color.StopBits.{StopBits}
use Rattle.std.specs.List.{list_all}
use Rattle.records.specs.Finite.{stop_finite, points_finite, glyph_finite, attributes_finite}
use Rattle.records.specs.Moved.{stored_stop}
use Rattle.records.specs.Numbers.{extend_of}
use Rattle.records.specs.Unit.{in_unit, stop_in_unit, image_in_range, sampler_in_range}
use Rattle.records.specs.Words.{sides_word, sampler_word}
use Rattle.records.specs.declared.glyph.Glyph.{Glyph}
use Rattle.records.specs.declared.glyph.GlyphRun.{GlyphRun}
use Rattle.records.specs.declared.glyph.RunAttributes.{RunAttributes}
use Rattle.records.specs.declared.image.Image.{Image}
use Rattle.records.specs.declared.image.ImageSampler.{ImageSampler}
use Rattle.records.specs.declared.patch.DrawLinearGradient.{DrawLinearGradient}
use Rattle.records.specs.declared.patch.Extend.{Extend}
use Rattle.records.specs.declared.patch.Patch.{Patch}
use Rattle.records.specs.declared.patch.Patch.TheVariants.{Ramp, GlyphRun as Run, Image as Picture}
use Rattle.records.specs.declared.refusal.Refusal.{Refusal}
use Rattle.encoding.specs.Scene.{Scene, Room, ends}
use Rattle.encoding.specs.Answer.{asked}

-- a scene with other draw streams
abbrev pub with_draw : Scene → List ℕ → List ℕ → Scene
with_draw s tags words = record {
  path_tags = s.path_tags;
  path_data = s.path_data;
  draw_tags = tags;
  draw_data = words;
  transforms = s.transforms;
  styles = s.styles;
  patches = s.patches;
  stops = s.stops;
  glyphs = s.glyphs;
  runs = s.runs;
  paths = s.paths;
  segments = s.segments;
  clips = s.clips;
  open_clips = s.open_clips;
  flags = s.flags;
}

-- a scene with other lists that are bound late
abbrev pub with_late : Scene → List Patch → List StopBits → List Glyph → List GlyphRun → Scene
with_late s patches stops glyphs runs = record {
  path_tags = s.path_tags;
  path_data = s.path_data;
  draw_tags = s.draw_tags;
  draw_data = s.draw_data;
  transforms = s.transforms;
  styles = s.styles;
  patches = patches;
  stops = stops;
  glyphs = glyphs;
  runs = runs;
  paths = s.paths;
  segments = s.segments;
  clips = s.clips;
  open_clips = s.open_clips;
  flags = s.flags;
}

-- whether a list takes so many more
abbrev pub takes : {X : Type 0} → List X → ℕ → ℕ → Bool
takes xs more limit = nat_le (length xs + more) limit

-- one colour: tag 44 and its word
abbrev pub colored : Scene → ℕ → Scene
colored s word = with_draw s (s.draw_tags ++ 0x44 ∷ []) (s.draw_data ++ word ∷ [])

abbrev pub color_spacious : Scene → Room → Bool
color_spacious s r = takes s.draw_tags 1 r.draw_tags && takes s.draw_data 1 r.draw_data

-- two stops or more: a patch, tag 114 and five words, 0 and two points
abbrev pub ramped : Scene → DrawLinearGradient → List ColorStop → Float → Extend → Scene
ramped s d ss alpha extend =
    with_late
    (with_draw s (s.draw_tags ++ 0x114 ∷ [])
    (s.draw_data ++ 0 ∷ to_bits binary32 (at d.p0 0) ∷ to_bits binary32 (at d.p0 1) ∷ to_bits binary32 (at d.p1 0) ∷ to_bits binary32 (at d.p1 1) ∷ []))
    (s.patches ++ Ramp (length s.draw_data) (length s.stops) (length s.stops + length ss) extend ∷ [])
    (s.stops ++ map (stored_stop alpha) ss) s.glyphs s.runs

abbrev pub ramp_spacious : Scene → Room → ℕ → Bool
ramp_spacious s r n =
    takes s.draw_tags 1 r.draw_tags && takes s.draw_data 5 r.draw_data && takes s.patches 1 r.patches && takes s.stops n r.stops

-- no stop is drawn as the word 0, one stop as its colour
abbrev pub graded : Scene → DrawLinearGradient → List ColorStop → Float → ℕ → Scene
graded s d [] alpha n = colored s 0
graded s d (x ∷ []) alpha n = colored s (color_word (faded alpha x).color)
graded s d (x ∷ y ∷ ss) alpha n = ramped s d (x ∷ y ∷ ss) alpha (extend_of n)

abbrev pub gradient_spacious : Scene → Room → List ColorStop → Bool
gradient_spacious s r [] = color_spacious s r
gradient_spacious s r (x ∷ []) = color_spacious s r
gradient_spacious s r (x ∷ y ∷ ss) = ramp_spacious s r (length (x ∷ y ∷ ss))

abbrev pub gradient_finite : DrawLinearGradient → List ColorStop → Float → Bool
gradient_finite d ss alpha = points_finite d && float_is_finite alpha && list_all stop_finite ss

abbrev pub gradient_in_range : List ColorStop → Float → ℕ → Bool
gradient_in_range ss alpha n = nat_le (length ss) 16 && in_unit alpha && list_all stop_in_unit ss && nat_le n 2

abbrev pub gradient_refusal : Scene → Room → DrawLinearGradient → List ColorStop → Float → ℕ → Option Refusal
gradient_refusal s r d ss alpha n =
    asked (gradient_finite d ss alpha) (gradient_in_range ss alpha n) (gradient_spacious s r ss) true

-- a picture: a patch, tag 28C and three words
abbrev pub pictured : Scene → Image → ImageSampler → Float → Scene
pictured s i m alpha =
    with_late (with_draw s (s.draw_tags ++ 0x28C ∷ []) (s.draw_data ++ 0 ∷ sides_word i ∷ sampler_word i m alpha ∷ []))
    (s.patches ++ Picture (length s.draw_data) i.id i.width i.height ∷ []) s.stops s.glyphs s.runs

abbrev pub image_spacious : Scene → Room → Bool
image_spacious s r = takes s.draw_tags 1 r.draw_tags && takes s.draw_data 3 r.draw_data && takes s.patches 1 r.patches

abbrev pub image_refusal : Scene → Room → Image → ImageSampler → Float → Option Refusal
image_refusal s r i m alpha =
    asked (float_is_finite m.alpha && float_is_finite alpha) (image_in_range i && sampler_in_range m && in_unit alpha) (image_spacious s r) true

-- a run: its glyphs, the run with the lengths of the streams at that moment, and its patch
abbrev pub run_of : Scene → RunAttributes → ℕ → GlyphRun
run_of s a n = record {
  attributes = a;
  glyphs_start = length s.glyphs;
  glyphs_end = length s.glyphs + n;
  stream_offsets = ends s;
}

abbrev pub run_added : Scene → RunAttributes → List Glyph → Scene
run_added s a gs =
    with_late s (s.patches ++ Run (length s.runs) ∷ []) s.stops (s.glyphs ++ gs) (s.runs ++ run_of s a (length gs) ∷ [])

abbrev pub run_spacious : Scene → Room → ℕ → Bool
run_spacious s r n = takes s.patches 1 r.patches && takes s.glyphs n r.glyphs && takes s.runs 1 r.runs

abbrev pub run_refusal : Scene → Room → RunAttributes → List Glyph → Option Refusal
run_refusal s r a gs = asked (attributes_finite a && list_all glyph_finite gs) true (run_spacious s r (length gs)) true
