-- The lines of a text.
use Rattle.std.specs.Prelude.{ℕ, cond, List, [], ◌∷◌, map, ◌==◌}
use Rattle.job_text.specs.Words.{without_return}
use Rattle.job.specs.declared.lines.Lines.{Lines}

-- a byte at the front of the first line
abbrev pub onto_first : ℕ → List (List ℕ) → List (List ℕ)
onto_first c [] = (c ∷ []) ∷ []
onto_first c (line ∷ more) = (c ∷ line) ∷ more

-- what stands before each line feed, and after the last one where something does
abbrev pub ended_lines : List ℕ → List (List ℕ)
ended_lines [] = []
ended_lines (c ∷ cs) = cond (c == 10) ([] ∷ ended_lines cs) (onto_first c (ended_lines cs))

abbrev pub lines : List ℕ → List (List ℕ)
lines text = map without_return (ended_lines text)

-- the lines that are still to come
abbrev pub left : Lines → List (List ℕ)
left s = lines s.rest.now
