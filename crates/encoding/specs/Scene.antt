-- The meaning of an encoding: ten lists, four counts and flags; and what room its lists have.
use Rattle.std.specs.Prelude.{ℕ, ◌+◌, ◌≤◌, min, Bool, ◌&&◌, List, [], length, nat_le}
use Rattle.bounded.specs.Held.{items}
use Rattle.math.specs.declared.transform.Transform.{Transform}
use Rattle.draw.specs.declared.color.StopBits.{StopBits}
use Rattle.records.specs.declared.patch.Patch.{Patch}
use Rattle.records.specs.declared.glyph.Glyph.{Glyph}
use Rattle.records.specs.declared.glyph.GlyphRun.{GlyphRun}
use Rattle.records.specs.declared.glyph.StreamOffsets.{StreamOffsets}
use Rattle.records.specs.declared.scene.Capacities.{Capacities}
use Rattle.records.specs.declared.scene.Counts.{Counts}
use Rattle.records.specs.declared.style.Style.{Style}
use Rattle.encoding.specs.Shape.{Lies, Turns, Rises, start}
use Rattle.encoding.specs.declared.encoding.Encoding.{Encoding}

pub record Scene : Type 0 where
  pub path_tags : List ℕ
  pub path_data : List ℕ
  pub draw_tags : List ℕ
  pub draw_data : List ℕ
  pub transforms : List Transform
  pub styles : List Style
  pub patches : List Patch
  pub stops : List StopBits
  pub glyphs : List Glyph
  pub runs : List GlyphRun
  pub paths : ℕ
  pub segments : ℕ
  pub clips : ℕ
  pub open_clips : ℕ
  pub flags : ℕ

abbrev pub meaning : Encoding → Scene
meaning s = record {
  path_tags = items s.path_tags;
  path_data = items s.path_data;
  draw_tags = items s.draw_tags;
  draw_data = items s.draw_data;
  transforms = items s.transforms;
  styles = items s.styles;
  patches = items s.resources.patches;
  stops = items s.resources.color_stops;
  glyphs = items s.resources.glyphs;
  runs = items s.resources.glyph_runs;
  paths = s.counts.n_paths;
  segments = s.counts.n_path_segments;
  clips = s.counts.n_clips;
  open_clips = s.counts.n_open_clips;
  flags = s.flags;
}

abbrev pub empty : Scene
empty = record {
  path_tags = [];
  path_data = [];
  draw_tags = [];
  draw_data = [];
  transforms = [];
  styles = [];
  patches = [];
  stops = [];
  glyphs = [];
  runs = [];
  paths = 0;
  segments = 0;
  clips = 0;
  open_clips = 0;
  flags = 0;
}

-- the lengths of a scene's six streams
abbrev pub ends : Scene → StreamOffsets
ends s = record {
  path_tags = length s.path_tags;
  path_data = length s.path_data;
  draw_tags = length s.draw_tags;
  draw_data = length s.draw_data;
  transforms = length s.transforms;
  styles = length s.styles;
}

-- what every scene keeps
pub record Sound (s : Scene) : Type 0 where
  pub patched : ∥ Lies (length s.draw_data) (length s.stops) 0 s.patches ∥₁
  pub turned : ∥ Turns (length s.runs) 0 s.patches ∥₁
  pub recorded : ∥ Rises (ends s) (length s.glyphs) start s.runs ∥₁
  pub path_tags : length s.path_tags ≤ 1000000
  pub path_data : length s.path_data ≤ 1000000
  pub draw_tags : length s.draw_tags ≤ 1000000
  pub draw_data : length s.draw_data ≤ 1000000
  pub transforms : length s.transforms ≤ 1000000
  pub styles : length s.styles ≤ 1000000
  pub patches : length s.patches ≤ 1000000
  pub stops : length s.stops ≤ 1000000
  pub glyphs : length s.glyphs ≤ 1000000
  pub runs : length s.runs ≤ 1000000
  pub paths : s.paths ≤ 1000000
  pub segments : s.segments ≤ 1000000
  pub clips : s.clips ≤ 1000000
  pub open_clips : s.open_clips ≤ 1000000

-- how many entries each list has room for
pub record Room : Type 0 where
  pub path_tags : ℕ
  pub path_data : ℕ
  pub draw_tags : ℕ
  pub draw_data : ℕ
  pub transforms : ℕ
  pub styles : ℕ
  pub patches : ℕ
  pub stops : ℕ
  pub glyphs : ℕ
  pub runs : ℕ

abbrev pub room : Encoding → Room
room s = record {
  path_tags = s.path_tags.limit;
  path_data = s.path_data.limit;
  draw_tags = s.draw_tags.limit;
  draw_data = s.draw_data.limit;
  transforms = s.transforms.limit;
  styles = s.styles.limit;
  patches = s.resources.patches.limit;
  stops = s.resources.color_stops.limit;
  glyphs = s.resources.glyphs.limit;
  runs = s.resources.glyph_runs.limit;
}

-- what the maker handed over, and at most a million entries
abbrev pub limited : Capacities → Room
limited w = record {
  path_tags = min w.path_tags 1000000;
  path_data = min w.path_data 1000000;
  draw_tags = min w.draw_tags 1000000;
  draw_data = min w.draw_data 1000000;
  transforms = min w.transforms 1000000;
  styles = min w.styles 1000000;
  patches = min w.patches 1000000;
  stops = min w.color_stops 1000000;
  glyphs = min w.glyphs 1000000;
  runs = min w.glyph_runs 1000000;
}

-- the four counts as one record
abbrev pub counts_of : Scene → Counts
counts_of s = record { n_paths = s.paths; n_path_segments = s.segments; n_clips = s.clips; n_open_clips = s.open_clips }

-- the six streams have space for so many entries more
abbrev pub streams_spacious : Scene → Room → StreamOffsets → Bool
streams_spacious s r more =
    nat_le (length s.path_tags + more.path_tags) r.path_tags
    && nat_le (length s.path_data + more.path_data) r.path_data
    && nat_le (length s.draw_tags + more.draw_tags) r.draw_tags
    && nat_le (length s.draw_data + more.draw_data) r.draw_data
    && nat_le (length s.transforms + more.transforms) r.transforms
    && nat_le (length s.styles + more.styles) r.styles

pub record StreamsFit (s : Scene) (r : Room) (more : StreamOffsets) : Type 0 where
  pub path_tags : length s.path_tags + more.path_tags ≤ r.path_tags
  pub path_data : length s.path_data + more.path_data ≤ r.path_data
  pub draw_tags : length s.draw_tags + more.draw_tags ≤ r.draw_tags
  pub draw_data : length s.draw_data + more.draw_data ≤ r.draw_data
  pub transforms : length s.transforms + more.transforms ≤ r.transforms
  pub styles : length s.styles + more.styles ≤ r.styles
