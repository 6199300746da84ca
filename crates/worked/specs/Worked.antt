-- Worked values: what the definitions give for a few inputs.
use Rattle.std.specs.Prelude.{◌≡◌, ℕ, false, List, [], ◌∷◌, pos, negsuc, slice_index_or, to_bits, Float}
use Rattle.std.specs.Float.{binary32, nan, fin}
use Rattle.std.specs.Float.Ieee.{mul}
use Rattle.draw.specs.declared.color.Color.{Color}
use Rattle.draw.specs.declared.color.ColorStop.{ColorStop}
use Rattle.draw.specs.Color.{channel, color_word}
use Rattle.draw.specs.Ramp.{sample_of, samples}

abbrev pub zero : Float
zero = fin false 0 (pos 0)

abbrev pub half : Float
half = fin false 1 (negsuc 0)

abbrev pub one : Float
one = fin false 1 (pos 0)

abbrev pub opaque : Float → Float → Float → Color
opaque r g b = record { r = r; g = g; b = b; a = one }

abbrev pub black : Color
black = opaque zero zero zero

abbrev pub white : Color
white = opaque one one one

abbrev pub red : Color
red = opaque one zero zero

abbrev pub green : Color
green = opaque zero one zero

abbrev pub blue : Color
blue = opaque zero zero one

abbrev pub stop : Float → Color → ColorStop
stop o c = record { offset = o; color = c }

abbrev pub black_to_white : List ColorStop
black_to_white = stop zero black ∷ stop one white ∷ []

-- black up to the middle
abbrev pub late_to_white : List ColorStop
late_to_white = stop half black ∷ stop one white ∷ []

-- two stops share the first offset
abbrev pub stops_sharing_first : List ColorStop
stops_sharing_first = stop zero red ∷ stop zero blue ∷ stop one black ∷ []

-- two stops share the last offset
abbrev pub stops_sharing_last : List ColorStop
stops_sharing_last = stop zero black ∷ stop one green ∷ stop one blue ∷ []

pub record Worked : Type 0 where
  pub black_first : sample_of black_to_white 0 ≡ 4278190080
  pub white_last : sample_of black_to_white 511 ≡ 4294967295
  pub row_last : slice_index_or (samples black_to_white) 511 0 ≡ 4294967295
  pub late_first : sample_of late_to_white 0 ≡ 4278190080
  pub late_middle : sample_of late_to_white 255 ≡ 4278190080
  pub late_last : sample_of late_to_white 511 ≡ 4294967295
  -- of the stops that share an offset the last one has the sample
  pub blue_word : color_word blue ≡ 0xffff_0000
  pub shared_first : sample_of stops_sharing_first 0 ≡ 0xffff_0000
  pub shared_last : sample_of stops_sharing_last 511 ≡ 0xffff_0000
  pub no_stops : (k : ℕ) → sample_of [] k ≡ 0
  -- a half is rounded up: 127.5 gives 128
  pub half_alpha : channel (mul binary32 one half) ≡ 128
  pub nan_bits : to_bits binary32 nan ≡ 0x7fc0_0000
