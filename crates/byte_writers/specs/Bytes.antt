-- Numbers, transforms and styles as bytes, the lowest first.
use Rattle.std.specs.Prelude.{ℕ, ◌/◌, ◌%◌, List, [], ◌∷◌, to_bits, Float}
use Rattle.std.specs.Float.{binary32}
use Rattle.std.specs.List.{flat_map}
use Rattle.math.specs.Product.{at}
use Rattle.math.specs.declared.transform.Transform.{Transform}
use Rattle.records.specs.declared.style.Style.{Style}

abbrev pub byte : ℕ → List ℕ
byte b = b ∷ []

abbrev pub word_bytes : ℕ → List ℕ
word_bytes n = (n % 256) ∷ (n / 256 % 256) ∷ (n / 65536 % 256) ∷ (n / 16777216 % 256) ∷ []

abbrev pub words_bytes : List ℕ → List ℕ
words_bytes = flat_map word_bytes

-- every NaN is written 7fc0_0000
abbrev pub float_bytes : Float → List ℕ
float_bytes x = word_bytes (to_bits binary32 x)

abbrev pub floats_bytes : List Float → List ℕ
floats_bytes = flat_map float_bytes

-- four numbers of matrix, then two of translation
abbrev pub transform_bytes : Transform → List ℕ
transform_bytes t =
    floats_bytes (at t.matrix 0 ∷ at t.matrix 1 ∷ at t.matrix 2 ∷ at t.matrix 3 ∷ at t.translation 0 ∷ at t.translation 1 ∷ [])

abbrev pub style_bytes : Style → List ℕ
style_bytes s = words_bytes (s.flags_and_miter_limit ∷ s.line_width ∷ [])
