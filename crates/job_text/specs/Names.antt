-- A name is 1 to 32 letters, digits, underscores and hyphens.
use Rattle.std.specs.Prelude.{ℕ, ◌-◌, Bool, ◌&&◌, ◌||◌, List, ◌++◌, length, replicate, ◌==◌, nat_le}
use Rattle.std.specs.List.{list_all}
use Rattle.std.specs.Char.{is_ascii_digit, is_ascii_alphabetic}

abbrev pub name_byte : ℕ → Bool
name_byte b = is_ascii_alphabetic b || is_ascii_digit b || b == 95 || b == 45

abbrev pub name_bytes : List ℕ → Bool
name_bytes text = list_all name_byte text

abbrev pub name_text : List ℕ → Bool
name_text text = nat_le 1 (length text) && nat_le (length text) 32 && name_bytes text

-- a name as it is held, with zeros after it
abbrev pub padded : List ℕ → List ℕ
padded text = text ++ replicate (32 - length text) 0
