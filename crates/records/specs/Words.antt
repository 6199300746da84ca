-- The draw words of a picture.
use Rattle.std.specs.Prelude.{ℕ, ◌+◌, ◌*◌, Float}
use Rattle.std.specs.Float.{binary32}
use Rattle.std.specs.Float.Ieee.{mul}
use Rattle.draw.specs.Color.{channel}
use Rattle.records.specs.declared.image.Image.{Image}
use Rattle.records.specs.declared.image.ImageSampler.{ImageSampler}

abbrev pub sides_word : Image → ℕ
sides_word i = i.width * 65536 + i.height

-- the sampler's alpha times the given one in the low byte
abbrev pub sampler_word : Image → ImageSampler → Float → ℕ
sampler_word i s alpha =
    i.format * 0x8000 + i.alpha_type * 0x4000 + s.quality * 0x1000 + s.x_extend * 0x400 + s.y_extend * 0x100
    + channel (mul binary32 s.alpha alpha)
