-- The colours along a gradient, and its 512 samples. Each operation is rounded once, in the order in which it is written.
use Rattle.std.specs.Prelude.{ℕ, cond, List, [], ◌∷◌, map, pos, from_bits, Float}
use Rattle.std.specs.Float.{binary32}
use Rattle.std.specs.Float.Ieee.{add, sub, mul, div, lt, le, eq, of_int}
use Rattle.std.specs.List.{range_with_len}
use Rattle.draw.specs.declared.color.Color.{Color}
use Rattle.draw.specs.declared.color.ColorStop.{ColorStop}
use Rattle.draw.specs.Color.{color_word}

-- c + (d − c) × t
abbrev pub mixed : Float → Float → Float → Float
mixed c d t = add binary32 c (mul binary32 (sub binary32 d c) t)

abbrev pub mix : Color → Color → Float → Color
mix c d t = record { r = mixed c.r d.r t; g = mixed c.g d.g t; b = mixed c.b d.b t; a = mixed c.a d.a t }

-- 1e-9: offsets that lie closer have nothing between them
abbrev pub narrow : Float
narrow = from_bits binary32 0x3089_705f

-- the colour at u between c at the earlier offset e and d at the later offset o
abbrev pub between : Float → Float → Color → Float → Color → Color
between u e c o d =
    cond (lt (sub binary32 o e) narrow) d (mix c d (div binary32 (sub binary32 u e) (sub binary32 o e)))

-- the effective offset of a stop at o, after one whose effective offset is e: an offset below an earlier one counts as that
abbrev pub raised : Float → Float → Float
raised e o = cond (lt o e) e o

-- The colour at u of stops that share the effective offset u: that of the last of them, which are the first of these, after one at e.
-- It is c where there is none.
abbrev pub last_shared : Float → Float → List ColorStop → Color → Color
last_shared u e [] c = c
last_shared u e (s ∷ ss) c = cond (eq (raised e s.offset) u) (last_shared u (raised e s.offset) ss s.color) c

-- the colour at a u past the effective offset e of a stop of colour c, by the stops after it
abbrev pub walk : Float → Float → Color → List ColorStop → Color
walk u e c [] = c
walk u e c (s ∷ ss) =
    cond (lt (raised e s.offset) u)
    (walk u (raised e s.offset) s.color ss)
    (last_shared u (raised e s.offset) ss (between u e c (raised e s.offset) s.color))

abbrev pub transparent : Color
transparent = record { r = from_bits binary32 0; g = from_bits binary32 0; b = from_bits binary32 0; a = from_bits binary32 0 }

-- the colour at u: up to the first offset the first colour
abbrev pub color_at : Float → List ColorStop → Color
color_at u [] = transparent
color_at u (s ∷ ss) = cond (le u s.offset) (last_shared u s.offset ss s.color) (walk u s.offset s.color ss)

-- sample i is read at i ÷ 511
abbrev pub place : ℕ → Float
place i = div binary32 (of_int binary32 (pos i)) (from_bits binary32 0x43ff_8000)

abbrev pub sample_of : List ColorStop → ℕ → ℕ
sample_of ss i = color_word (color_at (place i) ss)

abbrev pub samples : List ColorStop → List ℕ
samples ss = map (sample_of ss) (range_with_len 0 512)
