-- Numbers in a text: decimal, hexadecimal words, hexadecimal bytes.
use Rattle.std.specs.Prelude.{ℕ, ◌+◌, ◌*◌, ◌^◌, cond, ◌&&◌, List, [], ◌∷◌, length, Some, None, Option, nat_le, nat_lt}
use Rattle.std.specs.Char.{digit_value}

-- the number that digits write after n; none where another byte is among them
abbrev pub read_on : ℕ → ℕ → List ℕ → Option ℕ
read_on base n [] = Some n
read_on base n (c ∷ cs) = cond (nat_lt (digit_value c) base) (read_on base (n * base + digit_value c) cs) None

abbrev pub below : ℕ → Option ℕ → Option ℕ
below limit None = None
below limit (Some n) = cond (nat_lt n limit) (Some n) None

-- one digit or more, and a number below the limit
abbrev pub numeral : ℕ → ℕ → List ℕ → Option ℕ
numeral base limit [] = None
numeral base limit (c ∷ cs) = below limit (read_on base 0 (c ∷ cs))

-- one to eight hexadecimal digits
abbrev pub word_of : List ℕ → Option ℕ
word_of text = cond (nat_le (length text) 8) (numeral 16 (2 ^ 32) text) None

-- two hexadecimal digits to a byte
abbrev pub byte_of : ℕ → ℕ → Option ℕ
byte_of a b = cond (nat_lt (digit_value a) 16 && nat_lt (digit_value b) 16) (Some (16 * digit_value a + digit_value b)) None

abbrev pub before : Option ℕ → Option (List ℕ) → Option (List ℕ)
before None xs = None
before (Some x) None = None
before (Some x) (Some xs) = Some (x ∷ xs)

abbrev pub bytes_of : List ℕ → Option (List ℕ)
bytes_of [] = Some []
bytes_of (a ∷ []) = None
bytes_of (a ∷ b ∷ cs) = before (byte_of a b) (bytes_of cs)
