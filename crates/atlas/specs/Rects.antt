-- Rectangles, and when two of them share a point.
use Rattle.std.specs.Prelude.{ℕ, ◌+◌, ◌≤◌, Bool, ◌&&◌, ◌⊎◌, nat_lt}
use Rattle.atlas.specs.declared.rect.Rect.{Rect}

abbrev pub rect : ℕ → ℕ → ℕ → ℕ → Rect
rect x y w h = record { x = x; y = y; width = w; height = h }

-- it lies in the square of side S
abbrev pub Inside : ℕ → Rect → Type 0
Inside S r = (r.x + r.width ≤ S) × (r.y + r.height ≤ S)

-- the two share no point: one ends before the other begins, across or down
abbrev pub Apart : Rect → Rect → Type 0
Apart a b = (a.x + a.width ≤ b.x) ⊎ ((b.x + b.width ≤ a.x) ⊎ ((a.y + a.height ≤ b.y) ⊎ (b.y + b.height ≤ a.y)))

-- whether the two share a point
abbrev pub meets : Rect → Rect → Bool
meets a b = nat_lt a.x (b.x + b.width) && (nat_lt b.x (a.x + a.width) && (nat_lt a.y (b.y + b.height) && nat_lt b.y (a.y + a.height)))
