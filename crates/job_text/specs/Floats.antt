-- Numbers of 32 bits in a text: decimal, or x and the bits.
use Rattle.std.specs.Prelude.{◌≡◌, ℕ, ◌^◌, ◌<◌, Bool, cond, List, length, drop, pos, is_some, Some, None, IsUtf8, MatchBool, Option, ◌==◌, from_bits, slice_index, Float}
use Rattle.std.specs.Float.{binary32}
use Rattle.std.specs.Float.Ieee.{of_int}
use Rattle.std.specs.Float.Parse.{is_float_text}
use Rattle.std.specs.Option.{option_map}
use Rattle.std.specs.Str.Parse.{IsNumeral, without_leading_plus, digits_value}
use Rattle.job_text.specs.Numerals.{word_of}

-- x stands first
abbrev pub as_bits : List ℕ → Bool
as_bits text = slice_index text 0 == 120

abbrev pub float_from_bits : List ℕ → Option Float
float_from_bits text = cond (length text == 9) (option_map (from_bits binary32) (word_of (drop 1 text))) None

-- which texts are read, and what a whole number of 32 bits gives
pub record FromDecimal (text : List ℕ) (r : Option Float) : Type 0 where
  pub text_only : (IsUtf8 text → ⊥) → r ≡ None
  pub reads : IsUtf8 text → is_some r ≡ is_float_text text
  pub whole : IsUtf8 text → IsNumeral 10 (without_leading_plus text) → digits_value 10 (without_leading_plus text) < 2 ^ 32 → r ≡ Some (of_int binary32 (pos (digits_value 10 (without_leading_plus text))))

abbrev pub FloatOf : List ℕ → Option Float → Type 0
FloatOf text r = MatchBool (as_bits text) (r ≡ float_from_bits text) (FromDecimal text r)
