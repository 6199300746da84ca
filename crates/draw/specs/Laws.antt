-- What the samples of a gradient are, said of its stops: laws above the definitions in Ramp.
use Rattle.std.specs.Prelude.{◌≡◌, ℕ, ◌+◌, ◌<◌, ◌≤◌, not, T, List, [], ◌∷◌, map, length, is_nan, slice_index, slice_index_or, Float}
use Rattle.std.specs.Float.{nan}
use Rattle.std.specs.Float.Ieee.{lt, le, eq}
use Rattle.draw.specs.declared.color.Color.{Color}
use Rattle.draw.specs.declared.color.ColorStop.{ColorStop}
use Rattle.draw.specs.Color.{color_word}
use Rattle.draw.specs.Ramp.{between, raised, transparent, place, sample_of, samples}

-- no offset is a NaN
abbrev pub Numbers : List ColorStop → Type 0
Numbers [] = Unit {0}
Numbers (s ∷ ss) = T (not (is_nan s.offset)) × Numbers ss

-- the effective offsets of stops, after one whose effective offset is e
abbrev pub effective_from : Float → List ColorStop → List Float
effective_from e [] = []
effective_from e (s ∷ ss) = raised e s.offset ∷ effective_from (raised e s.offset) ss

abbrev pub effective : List ColorStop → List Float
effective [] = []
effective (s ∷ ss) = s.offset ∷ effective_from s.offset ss

-- ---- of stop j

abbrev pub offset_of : List ColorStop → ℕ → Float
offset_of ss j = slice_index_or (map (λ s. s.offset) ss) j nan

abbrev pub effective_of : List ColorStop → ℕ → Float
effective_of ss j = slice_index_or (effective ss) j nan

abbrev pub color_of : List ColorStop → ℕ → Color
color_of ss j = slice_index_or (map (λ s. s.color) ss) j transparent

abbrev pub word_of : List ColorStop → ℕ → ℕ
word_of ss j = color_word (color_of ss j)

-- no stop after j has the effective offset u
abbrev pub NoneAfter : Float → List ColorStop → ℕ → Type 0
NoneAfter u ss j = (m : ℕ) → j < m → m < length ss → T (eq (effective_of ss m) u) → ⊥

-- ---- the laws

-- an effective offset is the largest of the offsets so far
abbrev pub Largest : Type 0
Largest =
    (ss : List ColorStop) (j : ℕ) → Numbers ss → j < length ss
    → ((i : ℕ) → i ≤ j → T (le (offset_of ss i) (effective_of ss j))) × ((i : ℕ) × (i ≤ j) × (effective_of ss j ≡ offset_of ss i))

abbrev pub NeverFall : Type 0
NeverFall = (ss : List ColorStop) (i j : ℕ) → Numbers ss → i ≤ j → j < length ss → T (le (effective_of ss i) (effective_of ss j))

-- a sample before the first offset is the first stop's word
abbrev pub BeforeFirst : Type 0
BeforeFirst = (ss : List ColorStop) (k : ℕ) → 0 < length ss → T (lt (place k) (offset_of ss 0)) → sample_of ss k ≡ word_of ss 0

-- and so is one at the first offset, if no other stop shares it
abbrev pub AtFirst : Type 0
AtFirst =
    (ss : List ColorStop) (k : ℕ) → 0 < length ss → T (eq (offset_of ss 0) (place k)) → NoneAfter (place k) ss 0
    → sample_of ss k ≡ word_of ss 0

-- a sample past the largest offset is the last stop's word
abbrev pub PastLast : Type 0
PastLast =
    (ss : List ColorStop) (j k : ℕ) → Numbers ss → j + 1 ≡ length ss → T (lt (effective_of ss j) (place k)) → sample_of ss k ≡ word_of ss j

-- at an offset that several stops share the sample is the word of the last of them
abbrev pub Shared : Type 0
Shared =
    (ss : List ColorStop) (i j k : ℕ) → Numbers ss → i < j → j < length ss
    → T (eq (effective_of ss i) (place k)) → T (eq (effective_of ss j) (place k)) → NoneAfter (place k) ss j
    → sample_of ss k ≡ word_of ss j

-- past stop i, and up to the next one if that shares its offset with no later stop, the sample is mixed of the two
abbrev pub Inside : Type 0
Inside =
    (ss : List ColorStop) (i j k : ℕ) → Numbers ss → i + 1 ≡ j → j < length ss
    → T (lt (effective_of ss i) (place k)) → T (le (place k) (effective_of ss j)) → NoneAfter (place k) ss j
    → sample_of ss k ≡ color_word (between (place k) (effective_of ss i) (color_of ss i) (effective_of ss j) (color_of ss j))

-- a row has 512 samples
abbrev pub Row : Type 0
Row = (ss : List ColorStop) → (length (samples ss) ≡ 512) × ((k : ℕ) → k < 512 → slice_index (samples ss) k ≡ sample_of ss k)

pub record RampLaws : Type 0 where
  pub largest : Largest
  pub never_fall : NeverFall
  pub before_first : BeforeFirst
  pub at_first : AtFirst
  pub past_last : PastLast
  pub shared : Shared
  pub inside : Inside
  pub row : Row
