-- Searches: the first number that has something to give, and the steps of the corner atlas from edge to edge.
use Rattle.std.specs.Prelude.{ℕ, zero, suc, ◌+◌, min, cond, Some, None, Option, nat_lt, fold, filter, filter_map}
use Rattle.std.specs.Option.{option_map, option_or}
use Rattle.std.specs.List.{reduce}
use Rattle.atlas.specs.Rects.{rect, meets}
use Rattle.atlas.specs.Slots.{Slots}
use Rattle.atlas.specs.declared.rect.Rect.{Rect}

-- what f gives at the first of the n numbers from i on at which it gives anything
unfoldable pub first_of : {X : Type 0} → (ℕ → Option X) → ℕ → ℕ → Option X
first_of f zero i = None
first_of f (suc n) i = option_or (f i) (first_of f n (i + 1))

-- x moved to the right edge of the slot's rectangle, if w by h at (x, y) meets it
abbrev pub past : ℕ → ℕ → ℕ → ℕ → Option Rect → ℕ
past y w h x None = x
past y w h x (Some r) = cond (meets (rect x y w h) r) (r.x + r.width) x

-- the same over one slot after the other
abbrev pub past_all : ℕ → ℕ → ℕ → ℕ → Slots → ℕ
past_all y w h x ss = fold (past y w h) x ss

-- the slot's lower edge
abbrev pub lower : Option Rect → Option ℕ
lower o = option_map (λ r. r.y + r.height) o

-- the least lower edge past y
abbrev pub edge_below : ℕ → Slots → Option ℕ
edge_below y ss = reduce min (filter (λ edge. nat_lt y edge) (filter_map lower ss))
