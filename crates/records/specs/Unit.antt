-- The ranges that a gradient and a picture are asked for.
use Rattle.std.specs.Prelude.{ℕ, ◌≤◌, Bool, ◌&&◌, nat_le, Float}
use Rattle.std.specs.Float.Ieee.{le}
use Rattle.math.specs.Product.{zero, one}
use Rattle.draw.specs.declared.color.ColorStop.{ColorStop}
use Rattle.records.specs.declared.image.Image.{Image}
use Rattle.records.specs.declared.image.ImageSampler.{ImageSampler}

-- from 0 to 1, by value
abbrev pub in_unit : Float → Bool
in_unit x = le zero x && le x one

abbrev pub stop_in_unit : ColorStop → Bool
stop_in_unit s = in_unit s.offset && in_unit s.color.r && in_unit s.color.g && in_unit s.color.b && in_unit s.color.a

-- a picture's side has 16 bits and is not 0
abbrev pub side_in_range : ℕ → Bool
side_in_range n = nat_le 1 n && nat_le n 65535

abbrev pub image_in_range : Image → Bool
image_in_range i = side_in_range i.width && side_in_range i.height && nat_le i.format 1 && nat_le i.alpha_type 1

-- what that says of the sides
pub record Sides (i : Image) : Type 0 where
  pub width : i.width ≤ 65535
  pub height : i.height ≤ 65535
  pub some_width : 1 ≤ i.width
  pub some_height : 1 ≤ i.height

abbrev pub sampler_in_range : ImageSampler → Bool
sampler_in_range s = nat_le s.x_extend 2 && nat_le s.y_extend 2 && nat_le s.quality 2 && in_unit s.alpha
