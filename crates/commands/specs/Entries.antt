-- A list of entries with a comma between.
use Rattle.std.specs.Prelude.{ℕ, ◌<◌, List, [], ◌∷◌, length, Some, None, Option, slice_index_or}
use Rattle.job_text.specs.Words.{parts_of}

-- an empty text is an empty list
abbrev pub entries_of : List ℕ → List (List ℕ)
entries_of [] = []
entries_of (c ∷ cs) = parts_of 44 (c ∷ cs)

-- each text gives the value at its place
abbrev pub ReadAll : {X : Type 0} → (List ℕ → Option X → Type 0) → List (List ℕ) → List X → Type 0
ReadAll R [] [] = Unit {0}
ReadAll R [] (x ∷ xs) = ⊥
ReadAll R (t ∷ ts) [] = ⊥
ReadAll R (t ∷ ts) (x ∷ xs) = R t (Some x) × ReadAll R ts xs

-- some text gives none
abbrev pub ReadNot : {X : Type 0} → (List ℕ → Option X → Type 0) → List (List ℕ) → Type 0
ReadNot R ts = (k : ℕ) × (k < length ts) × R (slice_index_or ts k []) None
