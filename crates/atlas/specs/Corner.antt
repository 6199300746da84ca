-- The corner atlas: of all free places the one of least y, and there of least x.
use Rattle.std.specs.Prelude.{◌≡◌, ℕ, ◌+◌, ◌<◌, min, Bool, true, cond, ◌&&◌, replicate, Some, None, Option, nat_le, slice_set}
use Rattle.atlas.specs.declared.rect.Rect.{Rect}
use Rattle.atlas.specs.Rects.{rect}
use Rattle.atlas.specs.Slots.{Slots, SquareSound, slot, vacant, allowed, clear}
use Rattle.atlas.specs.Search.{first_of}
use Rattle.atlas.specs.Kind.{AtlasKind, Free}

pub record Cornered : Type 0 where
  pub side : ℕ
  pub slots : Slots

abbrev pub CornerSound : Cornered → Type 0
CornerSound s = SquareSound s.side s.slots

-- whether w by h is free at (x, y)
abbrev pub free_at : ℕ → Slots → ℕ → ℕ → ℕ → ℕ → Bool
free_at S ss w h y x = nat_le (x + w) S && (nat_le (y + h) S && clear (rect x y w h) ss)

abbrev pub place_at : ℕ → Slots → ℕ → ℕ → ℕ → ℕ → Option (ℕ × ℕ)
place_at S ss w h y x = cond (free_at S ss w h y x) (Some (x, y)) None

-- the first free place of the row y, from the left
abbrev pub in_row : ℕ → Slots → ℕ → ℕ → ℕ → Option (ℕ × ℕ)
in_row S ss w h y = first_of (place_at S ss w h y) (S + 1) 0

-- the first free place of all, row by row
abbrev pub least_place : ℕ → Slots → ℕ → ℕ → Option (ℕ × ℕ)
least_place S ss w h = first_of (in_row S ss w h) (S + 1) 0

abbrev pub corner_gives : Cornered → ℕ → ℕ → Option (ℕ × ℕ)
corner_gives s w h = cond (allowed s.slots w h) (least_place s.side s.slots w h) None

abbrev pub with_slot : Cornered → ℕ → Option Rect → Cornered
with_slot s i o = record { side = s.side; slots = slice_set s.slots i o }

abbrev pub corner_put : Option (ℕ × ℕ) → Cornered → ℕ → ℕ → Cornered
corner_put None s w h = s
corner_put (Some p) s w h = with_slot s (vacant s.slots) (Some (rect p.0 p.1 w h))

abbrev pub corner : AtlasKind
corner = record {
  carrier = Cornered;
  sound = CornerSound;
  side = λ s. s.side;
  live = λ s i. slot s.slots i;
  fresh = λ s. vacant s.slots;
  gives = corner_gives;
  placed = λ s w h. corner_put (corner_gives s w h) s w h;
  freed = λ s i. with_slot s i None;
  empty = λ n. record { side = min n 8192; slots = replicate 256 None };
}

-- (x, y) is free, no place above its row is, and none to its left in that row
pub record Least (s : Cornered) (w h x y : ℕ) : Type 0 where
  pub free : Free corner s w h x y
  pub above : (a b : ℕ) → b < y → Free corner s w h a b → ⊥
  pub left : (a : ℕ) → a < x → Free corner s w h a y → ⊥

-- an answer is the least free place; where no side is 0 and a slot is empty, there is none only if no place is free
pub record TakesLeast (s : Cornered) (w h : ℕ) (answer : Option (ℕ × ℕ)) : Type 0 where
  pub least : (x y : ℕ) → answer ≡ Some (x, y) → Least s w h x y
  pub none : allowed s.slots w h ≡ true → answer ≡ None → (x y : ℕ) → Free corner s w h x y → ⊥
