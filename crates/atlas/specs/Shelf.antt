-- The shelf atlas: shelves stacked from y = 0 down, each as tall as the picture that opened it.
use Rattle.std.specs.Prelude.{◌≡◌, ℕ, ◌+◌, ◌<◌, ◌≤◌, min, max, Bool, true, false, cond, ◌&&◌, ◌||◌, ◌⊎◌, List, [], ◌∷◌, ◌++◌, length, take, replicate, is_some, Some, None, Option, ◌==◌, ◌≢◌, nat_le, slice_index, slice_set, sum}
use Rattle.atlas.specs.declared.rect.Rect.{Rect}
use Rattle.atlas.specs.Rects.{rect}
use Rattle.atlas.specs.Slots.{Slots, SquareSound, slot, vacant, allowed}
use Rattle.std.specs.List.{list_all}
use Rattle.std.specs.Option.{option_or}
use Rattle.atlas.specs.Kind.{AtlasKind}

pub record Shelved : Type 0 where
  pub side : ℕ
  -- the heights of the shelves, from the top
  pub shelves : List ℕ
  pub slots : Slots

abbrev pub depth : List ℕ → ℕ
depth ts = sum ts

-- how far the slot's picture reaches to the right, if it stands on the shelf at y
abbrev pub reach : ℕ → Option Rect → ℕ
reach y None = 0
reach y (Some r) = cond (r.y == y) (r.x + r.width) 0

-- the right edge of the furthest live picture of the shelf at y, 0 if it is empty
abbrev pub furthest : ℕ → Slots → ℕ
furthest y [] = 0
furthest y (s ∷ ss) = max (reach y s) (furthest y ss)

-- the place on the shelf at y of height t, if it is tall enough with the width left
abbrev pub on_shelf : ℕ → Slots → ℕ → ℕ → ℕ → ℕ → Option (ℕ × ℕ)
on_shelf S ss w h y t = cond (nat_le h t && nat_le (furthest y ss + w) S) (Some (furthest y ss, y)) None

-- the place on a new shelf at y, if that fits
abbrev pub new_shelf : ℕ → ℕ → ℕ → ℕ → Option (ℕ × ℕ)
new_shelf S w h y = cond (nat_le w S && nat_le (y + h) S) (Some (0, y)) None

-- on the first shelf of those from y on that will do, else on a new one below
abbrev pub chosen : ℕ → Slots → ℕ → ℕ → ℕ → List ℕ → Option (ℕ × ℕ)
chosen S ss w h y [] = new_shelf S w h y
chosen S ss w h y (t ∷ ts) = option_or (on_shelf S ss w h y t) (chosen S ss w h (y + t) ts)

abbrev pub shelf_gives : Shelved → ℕ → ℕ → Option (ℕ × ℕ)
shelf_gives s w h = cond (allowed s.slots w h) (chosen s.side s.slots w h 0 s.shelves) None

-- a picture on a shelf that there is, and one that opens a shelf
abbrev pub put_on : Shelved → ℕ → Rect → Shelved
put_on s i r = record { side = s.side; shelves = s.shelves; slots = slice_set s.slots i (Some r) }

abbrev pub open_with : Shelved → ℕ → Rect → Shelved
open_with s i r = record { side = s.side; shelves = s.shelves ++ (r.height ∷ []); slots = slice_set s.slots i (Some r) }

abbrev pub shelf_put : Option (ℕ × ℕ) → Shelved → ℕ → ℕ → Shelved
shelf_put None s w h = s
shelf_put (Some p) s w h =
    cond (p.1 == depth s.shelves)
    (open_with s (vacant s.slots) (rect p.0 p.1 w h))
    (put_on s (vacant s.slots) (rect p.0 p.1 w h))

-- how many of the shelves from y on stand: none if all are empty, else up to the last that is not
abbrev pub onto : ℕ → ℕ → ℕ
onto far n = cond (n == 0) (cond (far == 0) 0 1) (1 + n)

abbrev pub standing : Slots → ℕ → List ℕ → ℕ
standing ss y [] = 0
standing ss y (t ∷ ts) = onto (furthest y ss) (standing ss (y + t) ts)

-- the slot empty, and the empty shelves gone that have none below them
abbrev pub emptied : Shelved → ℕ → Shelved
emptied s i = record {
  side = s.side;
  shelves = take (standing (slice_set s.slots i None) 0 s.shelves) s.shelves;
  slots = slice_set s.slots i None;
}

abbrev pub shelf_freed : Shelved → ℕ → Shelved
shelf_freed s i = cond (is_some (slot s.slots i)) (emptied s i) s

-- the rectangle stands on one of the shelves from y on, and is not taller
abbrev pub stands : ℕ → List ℕ → Rect → Bool
stands y [] r = false
stands y (t ∷ ts) r = (r.y == y && nat_le r.height t) || stands (y + t) ts r

abbrev pub slot_stands : List ℕ → Option Rect → Bool
slot_stands ts None = true
slot_stands ts (Some r) = nat_le 1 r.width && stands 0 ts r

abbrev pub all_stand : List ℕ → Slots → Bool
all_stand ts ss = list_all (slot_stands ts) ss

abbrev pub all_tall : List ℕ → Bool
all_tall ts = list_all (nat_le 1) ts

pub record ShelfSound (s : Shelved) : Type 0 where
  pub square : SquareSound s.side s.slots
  pub tall : all_tall s.shelves ≡ true
  pub within : depth s.shelves ≤ s.side
  pub held : all_stand s.shelves s.slots ≡ true
  pub trim : standing s.slots 0 s.shelves ≡ length s.shelves

abbrev pub shelf : AtlasKind
shelf = record {
  carrier = Shelved;
  sound = ShelfSound;
  side = λ s. s.side;
  live = λ s i. slot s.slots i;
  fresh = λ s. vacant s.slots;
  gives = shelf_gives;
  placed = λ s w h. shelf_put (shelf_gives s w h) s w h;
  freed = shelf_freed;
  empty = λ n. record { side = min n 8192; shelves = []; slots = replicate 256 None };
}

-- where the shelf k begins
abbrev pub top : Shelved → ℕ → ℕ
top s k = depth (take k s.shelves)

-- the shelf k is tall enough, with the width left past its furthest live picture
pub record Fits (s : Shelved) (w h k : ℕ) : Type 0 where
  pub there : k < length s.shelves
  pub tall : h ≤ slice_index s.shelves k
  pub wide : furthest (top s k) s.slots + w ≤ s.side

-- where no side is 0 and a slot is empty, the first shelf that fits is taken, else a new one below if that fits
pub record TakesFirst (s : Shelved) (w h : ℕ) (answer : Option (ℕ × ℕ)) : Type 0 where
  pub takes : allowed s.slots w h ≡ true → (k : ℕ) → Fits s w h k → ((j : ℕ) → j < k → Fits s w h j → ⊥) → answer ≡ Some (furthest (top s k) s.slots, top s k)
  pub opens : allowed s.slots w h ≡ true → ((k : ℕ) → Fits s w h k → ⊥) → w ≤ s.side → depth s.shelves + h ≤ s.side → answer ≡ Some (0, depth s.shelves)
  pub none : allowed s.slots w h ≡ true → ((k : ℕ) → Fits s w h k → ⊥) → (s.side < w) ⊎ (s.side < depth s.shelves + h) → answer ≡ None

-- no live picture stands on the shelf that begins at y
abbrev pub Bare : Shelved → ℕ → Type 0
Bare s y = (i : ℕ) (r : Rect) → slot s.slots i ≡ Some r → r.y ≢ y

-- from s to t: the first shelves stay, with their heights, those that go are empty, and the last that stays is not
pub record Vanished (s t : Shelved) : Type 0 where
  pub stay : t.shelves ≡ take (length t.shelves) s.shelves
  pub gone : (k : ℕ) → length t.shelves ≤ k → k < length s.shelves → Bare t (top s k)
  pub last : (k : ℕ) → k + 1 ≡ length t.shelves → Bare t (top s k) → ⊥
