-- A stream with cuts: at `place` the next `gone` entries go, and `put` comes in.
use Rattle.std.specs.Prelude.{ℕ, ◌+◌, ◌≤◌, List, [], ◌∷◌, ◌++◌, drop}
use Rattle.std.specs.List.{between}

pub record Cut (X : Type 0) : Type 0 where
  pub place : ℕ
  pub gone : ℕ
  pub put : List X

-- the entries from `from` on, with the cuts in their order
abbrev pub spliced : {X : Type 0} → ℕ → List X → List (Cut X) → List X
spliced from xs [] = drop from xs
spliced from xs (c ∷ cs) = between from c.place xs ++ (c.put ++ spliced (c.place + c.gone) xs cs)

-- cuts never fall, never meet, and stay within n
abbrev pub Cuts : {X : Type 0} → ℕ → ℕ → List (Cut X) → Type 0
Cuts n from [] = from ≤ n
Cuts n from (c ∷ cs) = (from ≤ c.place) × Cuts n (c.place + c.gone) cs
