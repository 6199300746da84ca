-- The scene after lay, and what lay asks.
use Rattle.std.specs.Prelude.{ℕ, ◌+◌, Bool, true, ◌++◌, length, Option}
use Rattle.math.specs.Finite.{all_finite}
use Rattle.std.specs.List.{list_all}
use Rattle.records.specs.declared.glyph.StreamOffsets.{StreamOffsets}
use Rattle.records.specs.declared.refusal.Refusal.{Refusal}
use Rattle.records.specs.declared.scene.Counts.{Counts}
use Rattle.records.specs.declared.scene.Streams.{Streams}
use Rattle.encoding.specs.Scene.{Scene, Room, streams_spacious}
use Rattle.encoding.specs.Answer.{asked}
use Rattle.encoding.specs.Appended.{counts_few}

-- entries after those of the six streams, the counts added, the flags set
abbrev pub laid : Scene → Streams → Counts → ℕ → Scene
laid s g c flags = record {
  path_tags = s.path_tags ++ g.path_tags.now;
  path_data = s.path_data ++ g.path_data.now;
  draw_tags = s.draw_tags ++ g.draw_tags.now;
  draw_data = s.draw_data ++ g.draw_data.now;
  transforms = s.transforms ++ g.transforms.now;
  styles = s.styles ++ g.styles.now;
  patches = s.patches;
  stops = s.stops;
  glyphs = s.glyphs;
  runs = s.runs;
  paths = s.paths + c.n_paths;
  segments = s.segments + c.n_path_segments;
  clips = s.clips + c.n_clips;
  open_clips = s.open_clips + c.n_open_clips;
  flags = flags;
}

abbrev pub lengths : Streams → StreamOffsets
lengths g = record {
  path_tags = length g.path_tags.now;
  path_data = length g.path_data.now;
  draw_tags = length g.draw_tags.now;
  draw_data = length g.draw_data.now;
  transforms = length g.transforms.now;
  styles = length g.styles.now;
}

abbrev pub lay_spacious : Scene → Room → Streams → Bool
lay_spacious s r g = streams_spacious s r (lengths g)

abbrev pub lay_refusal : Scene → Room → Streams → Counts → Option Refusal
lay_refusal s r g c = asked (list_all all_finite g.transforms.now) true (lay_spacious s r g) (counts_few s c)
