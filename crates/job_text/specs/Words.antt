-- The words of a line, which are apart by spaces, and the parts of a word.
use Rattle.std.specs.Prelude.{ℕ, ◌-◌, cond, not, List, [], ◌∷◌, length, take, drop, Some, None, Option, ◌==◌, slice_index}
use Rattle.std.specs.List.{prefix_len}

-- how often a byte stands at the front, and how much stands before its first place
abbrev pub run_of : ℕ → List ℕ → ℕ
run_of byte text = prefix_len (λ b. b == byte) text

abbrev pub up_to : ℕ → List ℕ → ℕ
up_to byte text = prefix_len (λ b. not (b == byte)) text

-- a line from its first word on
abbrev pub from_word : List ℕ → List ℕ
from_word line = drop (run_of 32 line) line

-- the first word, empty where there is none, and what follows it
abbrev pub first_word : List ℕ → List ℕ
first_word line = take (up_to 32 (from_word line)) (from_word line)

abbrev pub after_word : List ℕ → List ℕ
after_word line = drop (up_to 32 (from_word line)) (from_word line)

-- a line without the carriage return that stands before its line feed
abbrev pub without_return : List ℕ → List ℕ
without_return line = cond (slice_index line (length line - 1) == 13) (take (length line - 1) line) line

-- the parts of a text with a byte between
abbrev pub onto : ℕ → List (List ℕ) → List (List ℕ)
onto c [] = []
onto c (part ∷ parts) = (c ∷ part) ∷ parts

abbrev pub parts_of : ℕ → List ℕ → List (List ℕ)
parts_of byte [] = [] ∷ []
parts_of byte (c ∷ cs) = cond (c == byte) ([] ∷ parts_of byte cs) (onto c (parts_of byte cs))

abbrev pub past_first : List ℕ → Option (List ℕ)
past_first [] = None
past_first (c ∷ cs) = Some cs
