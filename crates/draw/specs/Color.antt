-- Colours, their words, and stops bit by bit.
use Rattle.std.specs.Prelude.{◌≡◌, ℕ, ◌+◌, ◌*◌, cond, from_bits, to_bits, Float}
use Rattle.std.specs.Float.Ieee.{eq, mul, to_unsigned}
use Rattle.std.specs.Float.{float_round, binary32}
use Rattle.draw.specs.declared.color.Color.{Color}
use Rattle.draw.specs.declared.color.ColorStop.{ColorStop}
use Rattle.draw.specs.declared.color.StopBits.{StopBits}

-- x times 255, to the nearest whole number, a half away from zero, limited to 0 to 255
abbrev pub channel : Float → ℕ
channel x = to_unsigned 8 (float_round binary32 (mul binary32 x (from_bits binary32 0x437f_0000)))

-- red, green and blue times alpha; red lowest, alpha highest
abbrev pub color_word : Color → ℕ
color_word c =
    channel (mul binary32 c.r c.a) + 256 * channel (mul binary32 c.g c.a)
    + 65536 * channel (mul binary32 c.b c.a) + 16777216 * channel c.a

-- a stop with its alpha times the given one, unless that is 1
abbrev pub faded : Float → ColorStop → ColorStop
faded alpha s = cond (eq alpha (from_bits binary32 0x3f80_0000)) s
    (record { offset = s.offset; color = record { r = s.color.r; g = s.color.g; b = s.color.b; a = mul binary32 s.color.a alpha } })

abbrev pub bits_of : ColorStop → StopBits
bits_of s = record {
  offset = to_bits binary32 s.offset;
  r = to_bits binary32 s.color.r;
  g = to_bits binary32 s.color.g;
  b = to_bits binary32 s.color.b;
  a = to_bits binary32 s.color.a;
}

abbrev pub stop_of : StopBits → ColorStop
stop_of s = record {
  offset = from_bits binary32 s.offset;
  color = record {
    r = from_bits binary32 s.r;
    g = from_bits binary32 s.g;
    b = from_bits binary32 s.b;
    a = from_bits binary32 s.a;
  };
}

-- a stop's bits, from which it comes back
pub record IsBitsOf (s : ColorStop) (b : StopBits) : Type 0 where
  pub is : b ≡ bits_of s
  pub back : stop_of b ≡ s
