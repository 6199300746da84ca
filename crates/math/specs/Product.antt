-- The product of two transforms.
use Rattle.std.specs.Prelude.{ℕ, List, [], ◌∷◌, from_bits, slice_index_or, Float}
use Rattle.std.specs.Float.{binary32, nan}
use Rattle.std.specs.Float.Ieee.{add, mul}
use Rattle.math.specs.declared.transform.Transform.{Transform}

abbrev pub at : List Float → ℕ → Float
at xs i = slice_index_or xs i nan

-- a × x + b × y
abbrev pub dot : Float → Float → Float → Float → Float
dot a x b y = add binary32 (mul binary32 a x) (mul binary32 b y)

-- the matrix is column by column: a point (x, y) goes to (m₀ x + m₂ y + t₀, m₁ x + m₃ y + t₁)
abbrev pub times : Transform → Transform → Transform
times s o = record {
  matrix =
      dot (at s.matrix 0) (at o.matrix 0) (at s.matrix 2) (at o.matrix 1) ∷
      dot (at s.matrix 1) (at o.matrix 0) (at s.matrix 3) (at o.matrix 1) ∷
      dot (at s.matrix 0) (at o.matrix 2) (at s.matrix 2) (at o.matrix 3) ∷
      dot (at s.matrix 1) (at o.matrix 2) (at s.matrix 3) (at o.matrix 3) ∷ [];
  translation =
      add binary32 (dot (at s.matrix 0) (at o.translation 0) (at s.matrix 2) (at o.translation 1)) (at s.translation 0) ∷
      add binary32 (dot (at s.matrix 1) (at o.translation 0) (at s.matrix 3) (at o.translation 1)) (at s.translation 1) ∷ [];
}

abbrev pub zero : Float
zero = from_bits binary32 0

abbrev pub one : Float
one = from_bits binary32 0x3f80_0000

abbrev pub identity : Transform
identity = record { matrix = one ∷ zero ∷ zero ∷ one ∷ []; translation = zero ∷ zero ∷ [] }
