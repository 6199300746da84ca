-- The scene after append, and what append asks.
use Rattle.std.specs.Prelude.{◌+◌, ◌≤◌, Bool, true, ◌&&◌, ◌++◌, map, length, Option, nat_le}
use Rattle.math.specs.declared.transform.Transform.{Transform}
use Rattle.records.specs.Finite.{given_finite}
use Rattle.records.specs.Moved.{under, moved_patch, moved_run}
use Rattle.records.specs.declared.refusal.Refusal.{Refusal}
use Rattle.records.specs.declared.scene.Counts.{Counts}
use Rattle.encoding.specs.Scene.{Scene, Room, ends, counts_of, streams_spacious, StreamsFit}
use Rattle.encoding.specs.Answer.{asked}

-- the other's lists after its own, with offsets, ranges and recorded lengths shifted; the other's flags
abbrev pub appended : Scene → Scene → Option Transform → Scene
appended s o t = record {
  path_tags = s.path_tags ++ o.path_tags;
  path_data = s.path_data ++ o.path_data;
  draw_tags = s.draw_tags ++ o.draw_tags;
  draw_data = s.draw_data ++ o.draw_data;
  transforms = s.transforms ++ map (under t) o.transforms;
  styles = s.styles ++ o.styles;
  patches = s.patches ++ map (moved_patch (length s.draw_data) (length s.stops) (length s.runs)) o.patches;
  stops = s.stops ++ o.stops;
  glyphs = s.glyphs ++ o.glyphs;
  runs = s.runs ++ map (moved_run t (ends s) (length s.glyphs)) o.runs;
  paths = s.paths + o.paths;
  segments = s.segments + o.segments;
  clips = s.clips + o.clips;
  open_clips = s.open_clips + o.open_clips;
  flags = o.flags;
}

-- every list has space for the other's
abbrev pub append_spacious : Scene → Room → Scene → Bool
append_spacious s r o =
    streams_spacious s r (ends o)
    && nat_le (length s.patches + length o.patches) r.patches
    && nat_le (length s.stops + length o.stops) r.stops
    && nat_le (length s.glyphs + length o.glyphs) r.glyphs
    && nat_le (length s.runs + length o.runs) r.runs

-- every count stays within a million
abbrev pub counts_few : Scene → Counts → Bool
counts_few s c =
    nat_le (s.paths + c.n_paths) 1000000 && nat_le (s.segments + c.n_path_segments) 1000000
    && nat_le (s.clips + c.n_clips) 1000000 && nat_le (s.open_clips + c.n_open_clips) 1000000

-- of the numbers only the given transform's are asked
abbrev pub append_refusal : Scene → Room → Scene → Option Transform → Option Refusal
append_refusal s r o t =
    asked (given_finite t) true (append_spacious s r o) (counts_few s (counts_of o))

-- what a yes of question 3 says of append
pub record Spacious (s : Scene) (r : Room) (o : Scene) : Type 0 where
  pub streams : StreamsFit s r (ends o)
  pub patches : length s.patches + length o.patches ≤ r.patches
  pub stops : length s.stops + length o.stops ≤ r.stops
  pub glyphs : length s.glyphs + length o.glyphs ≤ r.glyphs
  pub runs : length s.runs + length o.runs ≤ r.runs

-- what a yes of question 4 says
pub record Few (s : Scene) (c : Counts) : Type 0 where
  pub paths : s.paths + c.n_paths ≤ 1000000
  pub segments : s.segments + c.n_path_segments ≤ 1000000
  pub clips : s.clips + c.n_clips ≤ 1000000
  pub open_clips : s.open_clips + c.n_open_clips ≤ 1000000
