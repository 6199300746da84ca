-- CRC-32 as in zlib and PNG, bit by bit, over a list of bytes.
use Rattle.std.specs.Prelude.{ℕ, zero, suc, ◌+◌, ◌*◌, ◌/◌, ◌%◌, cond, List, [], ◌∷◌, fold, ◌==◌, bit_xor}

-- the polynomial, lowest bit first, where the bit that goes out is 1
abbrev pub added : ℕ → ℕ
added bit = cond (bit == 1) 0xedb8_8320 0

-- the lowest bit goes out
unfoldable pub shift : ℕ → ℕ
shift c = bit_xor (c / 2) (added (c % 2))

unfoldable pub shifts : ℕ → ℕ → ℕ
shifts zero c = c
shifts (suc n) c = shifts n (shift c)

-- the state after a byte, and after some
abbrev pub fed_byte : ℕ → ℕ → ℕ
fed_byte c b = shifts 8 (bit_xor c b)

abbrev pub fed : ℕ → List ℕ → ℕ
fed c bytes = fold fed_byte c bytes

-- what a byte adds to the state once n more have followed it
abbrev pub followed : ℕ → ℕ → ℕ
followed n b = shifts (8 * (n + 1)) b

-- the four bytes of a word, little-endian
abbrev pub word_bytes : ℕ → List ℕ
word_bytes w = w % 256 ∷ w / 256 % 256 ∷ w / 65536 % 256 ∷ w / 16777216 % 256 ∷ []

abbrev pub start : ℕ
start = 0xffff_ffff

abbrev pub crc_of : List ℕ → ℕ
crc_of bytes = bit_xor (fed start bytes) 0xffff_ffff
