-- Lists of runs, one after the other.
use Rattle.std.proofs.Common.{ℕ, zero, suc, ◌+◌, ◌<◌, ◌≤◌, List, [], ◌∷◌, ◌++◌, map, length, get_or, Option, arith}
use mathlib.Core.Logic.{∥∥₁_elim}
use denote.Struct.Props.{props}
use Rattle.math.specs.declared.transform.Transform.{Transform}
use Rattle.records.specs.Moved.{moved_run, past, SmallOffsets, SmallRun}
use Rattle.records.specs.declared.glyph.GlyphRun.{GlyphRun}
use Rattle.records.specs.declared.glyph.StreamOffsets.{StreamOffsets}
use Rattle.encoding.specs.Shape.{Rises, Under, start}
use Rattle.encoding.specs.Scene.{Scene, Sound, ends}

pub under_self : (a : StreamOffsets) → Under a a
under_self a = record {
  path_tags = omega arith;
  path_data = omega arith;
  draw_tags = omega arith;
  draw_data = omega arith;
  transforms = omega arith;
  styles = omega arith;
}

pub under_trans : (a b c : StreamOffsets) → Under a b → Under b c → Under a c
under_trans a b c h k = record {
  path_tags = omega arith;
  path_data = omega arith;
  draw_tags = omega arith;
  draw_data = omega arith;
  transforms = omega arith;
  styles = omega arith;
}

under_past : (e a b : StreamOffsets) → Under a b → Under (past e a) (past e b)
under_past e a b h = record {
  path_tags = omega arith;
  path_data = omega arith;
  draw_tags = omega arith;
  draw_data = omega arith;
  transforms = omega arith;
  styles = omega arith;
}

past_under : (e a b : StreamOffsets) → Under a e → Under a (past e b)
past_under e a b h = record {
  path_tags = omega arith;
  path_data = omega arith;
  draw_tags = omega arith;
  draw_data = omega arith;
  transforms = omega arith;
  styles = omega arith;
}

rises_lower : (e : StreamOffsets) (n : ℕ) (f g : StreamOffsets) (rs : List GlyphRun) → Under g f → Rises e n f rs → Rises e n g rs
unfolding Rises
rises_lower e n f g [] h l = under_trans g f e h l
rises_lower e n f g (r ∷ rs) h l = (under_trans g f r.stream_offsets h l.0, l.1, l.2, l.3)

rises_moved : (t : Option Transform) (e e' : StreamOffsets) (n n' : ℕ) (f : StreamOffsets) (rs : List GlyphRun) → Rises e' n' f rs
    → Rises (past e e') (n + n') (past e f) (map (moved_run t e n) rs)
unfolding Rises
rises_moved t e e' n n' f [] l = under_past e f e' l
rises_moved t e e' n n' f (r ∷ rs) l =
    (under_past e f r.stream_offsets l.0, omega arith, omega arith, rises_moved t e e' n n' r.stream_offsets rs l.3)

pub rises_append : (t : Option Transform) (e e' : StreamOffsets) (n n' : ℕ) (f : StreamOffsets) (rs qs : List GlyphRun) → Rises e n f rs → Rises e' n' start qs
    → Rises (past e e') (n + n') f (rs ++ map (moved_run t e n) qs)
unfolding Rises
rises_append t e e' n n' f [] qs l m =
    rises_lower _ _ (past e start) f _ (past_under e f start l) (rises_moved t e e' n n' start qs m)
rises_append t e e' n n' f (r ∷ rs) qs l m = (l.0, l.1, omega arith, rises_append t e e' n n' r.stream_offsets rs qs l.3 m)

-- the same runs in longer lists
pub rises_wider : (e e' : StreamOffsets) (n n' : ℕ) (f : StreamOffsets) (rs : List GlyphRun) → Under e e' → n ≤ n' → Rises e n f rs → Rises e' n' f rs
unfolding Rises
rises_wider e e' n n' f [] h k l = under_trans f e e' l h
rises_wider e e' n n' f (r ∷ rs) h k l = (l.0, l.1, omega arith, rises_wider e e' n n' r.stream_offsets rs h k l.3)

-- one run more, that records the ends
pub rises_more : (e : StreamOffsets) (n n' : ℕ) (f : StreamOffsets) (rs : List GlyphRun) (r : GlyphRun) → n ≤ n' → Rises e n f rs → Rises e n' e (r ∷ []) → Rises e n' f (rs ++ r ∷ [])
unfolding Rises
rises_more e n n' f [] r h l m = (under_trans f e r.stream_offsets l m.0, m.1, m.2, m.3)
rises_more e n n' f (q ∷ rs) r h l m = (l.0, l.1, omega arith, rises_more e n n' q.stream_offsets rs r h l.3 m)

rises_from : (e : StreamOffsets) (n : ℕ) (f : StreamOffsets) (rs : List GlyphRun) → Rises e n f rs → Under f e
unfolding Rises
rises_from e n f [] l = l
rises_from e n f (r ∷ rs) l = under_trans f r.stream_offsets e l.0 (rises_from e n r.stream_offsets rs l.3)

small_under : (a b : StreamOffsets) → Under a b → SmallOffsets b → SmallOffsets a
small_under a b h k = record {
  path_tags = omega arith;
  path_data = omega arith;
  draw_tags = omega arith;
  draw_data = omega arith;
  transforms = omega arith;
  styles = omega arith;
}

rises_small : (e : StreamOffsets) (n : ℕ) (f : StreamOffsets) (rs : List GlyphRun) → SmallOffsets e → n ≤ 1000000 → Rises e n f rs
    → (k : ℕ) (d : GlyphRun) → k < length rs → SmallRun (get_or rs k d)
unfolding Rises
rises_small e n f [] he hn l k d h = absurd (omega arith)
rises_small e n f (r ∷ rs) he hn l zero d h = record {
  start = omega arith;
  end = omega arith;
  offsets = small_under r.stream_offsets e (rises_from e n r.stream_offsets rs l.3) he;
}
rises_small e n f (r ∷ rs) he hn l (suc k) d h = rises_small e n r.stream_offsets rs he hn l.3 k d (omega arith)

small_offsets_prop : (a : StreamOffsets) → IsProp (SmallOffsets a)
small_offsets_prop a = hlevel props

small_prop : (r : GlyphRun) → IsProp (SmallRun r)
small_prop r = hlevel props

pub ends_small : (s : Scene) → Sound s → SmallOffsets (ends s)
ends_small s h = record {
  path_tags = h.path_tags;
  path_data = h.path_data;
  draw_tags = h.draw_tags;
  draw_data = h.draw_data;
  transforms = h.transforms;
  styles = h.styles;
}

-- the numbers of a scene's runs are small
pub runs_small : (s : Scene) → Sound s → (k : ℕ) (d : GlyphRun) → k < length s.runs → SmallRun (get_or s.runs k d)
runs_small s h k d l = ∥∥₁_elim h.recorded (small_prop _) (λ r. rises_small (ends s) _ start _ (ends_small s h) h.glyphs r k d l)
