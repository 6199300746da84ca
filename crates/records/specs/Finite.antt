-- Whether every number that is given is finite.
use Rattle.std.specs.Prelude.{Bool, true, ◌&&◌, Some, None, Option}
use Rattle.std.specs.Float.{float_is_finite}
use Rattle.math.specs.Product.{at}
use Rattle.math.specs.Finite.{all_finite}
use Rattle.math.specs.declared.transform.Transform.{Transform}
use Rattle.draw.specs.declared.color.ColorStop.{ColorStop}
use Rattle.records.specs.declared.glyph.Glyph.{Glyph}
use Rattle.records.specs.declared.glyph.RunAttributes.{RunAttributes}
use Rattle.records.specs.declared.patch.DrawLinearGradient.{DrawLinearGradient}

abbrev pub glyph_finite : Glyph → Bool
glyph_finite g = float_is_finite g.x && float_is_finite g.y

abbrev pub stop_finite : ColorStop → Bool
stop_finite s = float_is_finite s.offset && float_is_finite s.color.r && float_is_finite s.color.g && float_is_finite s.color.b && float_is_finite s.color.a

abbrev pub points_finite : DrawLinearGradient → Bool
points_finite d = float_is_finite (at d.p0 0) && float_is_finite (at d.p0 1) && float_is_finite (at d.p1 0) && float_is_finite (at d.p1 1)

-- a transform that is not given has no number
abbrev pub given_finite : Option Transform → Bool
given_finite None = true
given_finite (Some t) = all_finite t

abbrev pub attributes_finite : RunAttributes → Bool
attributes_finite a = float_is_finite a.font_size && all_finite a.transform && given_finite a.glyph_transform && given_finite a.brush_transform
