-- Laws of append over whole scenes.
use Rattle.std.specs.Prelude.{◌≡◌, ℕ, List, length, take, None, Option}
use Rattle.math.specs.declared.transform.Transform.{Transform}
use Rattle.encoding.specs.Scene.{Scene, empty}
use Rattle.encoding.specs.Appended.{appended}

-- the second list begins with the first
abbrev pub Begins : {X : Type 0} → List X → List X → Type 0
Begins xs ys = take (length xs) ys ≡ xs

-- each list of the second scene begins with the first's
pub record InFront (s after : Scene) : Type 0 where
  pub path_tags : Begins s.path_tags after.path_tags
  pub path_data : Begins s.path_data after.path_data
  pub draw_tags : Begins s.draw_tags after.draw_tags
  pub draw_data : Begins s.draw_data after.draw_data
  pub transforms : Begins s.transforms after.transforms
  pub styles : Begins s.styles after.styles
  pub patches : Begins s.patches after.patches
  pub stops : Begins s.stops after.stops
  pub glyphs : Begins s.glyphs after.glyphs
  pub runs : Begins s.runs after.runs

-- a scene with other flags
abbrev pub flagged : Scene → ℕ → Scene
flagged s f = record {
  path_tags = s.path_tags;
  path_data = s.path_data;
  draw_tags = s.draw_tags;
  draw_data = s.draw_data;
  transforms = s.transforms;
  styles = s.styles;
  patches = s.patches;
  stops = s.stops;
  glyphs = s.glyphs;
  runs = s.runs;
  paths = s.paths;
  segments = s.segments;
  clips = s.clips;
  open_clips = s.open_clips;
  flags = f;
}

pub record AppendLaws : Type 0 where
  pub in_front : (s o : Scene) (t : Option Transform) → InFront s (appended s o t)
  pub with_empty : (s : Scene) (f : ℕ) → appended s (flagged empty f) None ≡ flagged s f
  pub associative : (a b c : Scene) → appended (appended a b None) c None ≡ appended a (appended b c None) None
