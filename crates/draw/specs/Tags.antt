-- What a draw tag says of itself.
use Rattle.std.specs.Prelude.{ℕ, ◌/◌, ◌%◌}

-- how many words of draw info a tag takes
abbrev pub info_size : ℕ → ℕ
info_size tag = tag / 64 % 16
