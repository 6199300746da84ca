-- The 256 slots of an atlas: each holds a live rectangle or nothing, and its index is the rectangle's handle.
use Rattle.std.specs.Prelude.{◌≡◌, ℕ, ◌≤◌, Bool, true, not, ◌&&◌, List, length, is_none, Some, None, Option, ◌≢◌, nat_le, nat_lt, slice_index_or}
use Rattle.std.specs.List.{position_or_len, list_all}
use Rattle.atlas.specs.declared.rect.Rect.{Rect}
use Rattle.atlas.specs.Rects.{Inside, meets}

abbrev pub Slots : Type 0
Slots = List (Option Rect)

-- the rectangle under that handle
abbrev pub slot : Slots → ℕ → Option Rect
slot ss i = slice_index_or ss i None

-- the first empty slot, or how many slots there are
abbrev pub vacant : Slots → ℕ
vacant ss = position_or_len is_none ss

-- a picture of w by h may be tried: no side is 0, and one of the 256 slots is empty
abbrev pub allowed : Slots → ℕ → ℕ → Bool
allowed ss w h = nat_le 1 w && (nat_le 1 h && nat_lt (vacant ss) 256)

-- the slot's rectangle, if any, shares no point with r
abbrev pub misses : Rect → Option Rect → Bool
misses r None = true
misses r (Some t) = not (meets r t)

-- no live rectangle shares a point with r
abbrev pub clear : Rect → Slots → Bool
clear r ss = list_all (misses r) ss

-- every live rectangle lies inside
abbrev pub Lies : ℕ → Slots → Type 0
Lies S ss = (i : ℕ) (r : Rect) → slot ss i ≡ Some r → Inside S r

-- no two live rectangles share a point
abbrev pub both_miss : Option Rect → Option Rect → Bool
both_miss None t = true
both_miss (Some r) t = misses r t

abbrev pub Separate : Slots → Type 0
Separate ss = (i j : ℕ) → (i ≢ j) → both_miss (slot ss i) (slot ss j) ≡ true

-- what is always true of a square of side S and its slots
pub record SquareSound (S : ℕ) (ss : Slots) : Type 0 where
  pub small : S ≤ 8192
  pub whole : length ss ≡ 256
  pub lies : Lies S ss
  pub separate : Separate ss
