-- A write into the midst of a list.
use Rattle.std.specs.Prelude.{◌≡◌, ℕ, ◌+◌, List, ◌++◌, length, take, drop}

-- ys is written at `at`, up to n, and nothing else is touched
pub record Put (before : List ℕ) (at : ℕ) (ys : List ℕ) (n : ℕ) (after : List ℕ) : Type 0 where
  pub size : n ≡ at + length ys
  pub bytes : after ≡ (take at before ++ ys) ++ drop n before
