-- What an atlas means: the states of its kind, and the laws that every kind owes.
use Rattle.std.specs.Prelude.{◌≡◌, ℕ, ◌≤◌, min, true, cond, List, [], ◌∷◌, length, is_some, Some, None, Option, ◌==◌, ◌≢◌}
use Rattle.std.specs.List.{AllByRecursion}
use Rattle.atlas.specs.declared.rect.Rect.{Rect}
use Rattle.atlas.specs.Rects.{rect, Inside, Apart}

-- Answers and next states are functions of the state, so equal states stay equal under equal calls.
pub record AtlasKind : Type 1 where
  pub carrier : Type 0
  -- the states in which an atlas of this kind can be
  pub sound : carrier → Type 0
  pub side : carrier → ℕ
  -- the live rectangle under a handle
  pub live : carrier → ℕ → Option Rect
  -- the handle that the next placed rectangle gets
  pub fresh : carrier → ℕ
  -- the place, x and y, that it would give to a width and a height
  pub gives : carrier → ℕ → ℕ → Option (ℕ × ℕ)
  -- the state after placing a width and a height, and after freeing a handle
  pub placed : carrier → ℕ → ℕ → carrier
  pub freed : carrier → ℕ → carrier
  -- the state of a new atlas of that side
  pub empty : ℕ → carrier

-- w by h at (x, y) lies inside, and clear of every live rectangle
pub record Free (K : AtlasKind) (s : K.carrier) (w h x y : ℕ) : Type 0 where
  pub inside : Inside (K.side s) (rect x y w h)
  pub clear : (i : ℕ) (r : Rect) → K.live s i ≡ Some r → Apart (rect x y w h) r

-- the handles differ, and each has a live rectangle
abbrev pub InUse : (ℕ → Option Rect) → List ℕ → Type 0
InUse live [] = Unit {0}
InUse live (i ∷ is) = (is_some (live i) ≡ true) × AllByRecursion (λ j. j ≢ i) is × InUse live is

pub record AtlasLaws (K : AtlasKind) : Type 0 where
  -- every call leads from a sound state to a sound one
  pub sound_empty : (n : ℕ) → K.sound (K.empty n)
  pub sound_placed : (s : K.carrier) (w h : ℕ) → K.sound s → K.sound (K.placed s w h)
  pub sound_freed : (s : K.carrier) (i : ℕ) → K.sound s → K.sound (K.freed s i)
  -- the side is at most 8,192, a larger counts as that, and no call changes it
  pub small : (s : K.carrier) → K.sound s → K.side s ≤ 8192
  pub side_empty : (n : ℕ) → K.side (K.empty n) ≡ min n 8192
  pub capped : (n : ℕ) → 8192 ≤ n → K.empty n ≡ K.empty 8192
  pub side_placed : (s : K.carrier) (w h : ℕ) → K.side (K.placed s w h) ≡ K.side s
  pub side_freed : (s : K.carrier) (i : ℕ) → K.side (K.freed s i) ≡ K.side s
  -- a place is free; a picture with a side of 0 gets none, nor does any from an atlas of side 0
  pub free : (s : K.carrier) (w h x y : ℕ) → K.sound s → K.gives s w h ≡ Some (x, y) → Free K s w h x y
  pub sized : (s : K.carrier) (w h x y : ℕ) → K.gives s w h ≡ Some (x, y) → (1 ≤ w) × (1 ≤ h)
  pub sideless : (s : K.carrier) (w h : ℕ) → K.sound s → K.side s ≡ 0 → K.gives s w h ≡ None
  -- placing adds just that rectangle, under an unused handle; without a place nothing changes
  pub unused : (s : K.carrier) (w h x y : ℕ) → K.sound s → K.gives s w h ≡ Some (x, y) → K.live s (K.fresh s) ≡ None
  pub adds : (s : K.carrier) (w h x y i : ℕ) → K.sound s → K.gives s w h ≡ Some (x, y) → K.live (K.placed s w h) i ≡ cond (i == K.fresh s) (Some (rect x y w h)) (K.live s i)
  pub none_same : (s : K.carrier) (w h : ℕ) → K.gives s w h ≡ None → K.placed s w h ≡ s
  -- freeing removes one handle's rectangle; without one nothing changes
  pub removes : (s : K.carrier) (j i : ℕ) → K.sound s → K.live (K.freed s j) i ≡ cond (i == j) None (K.live s i)
  pub absent_same : (s : K.carrier) (j : ℕ) → K.live s j ≡ None → K.freed s j ≡ s
  -- a new atlas has nothing live, and one with nothing live places each size from 1 to its side
  pub live_empty : (n i : ℕ) → K.live (K.empty n) i ≡ None
  pub roomy : (s : K.carrier) (w h : ℕ) → K.sound s → ((i : ℕ) → K.live s i ≡ None) → 1 ≤ w → w ≤ K.side s → 1 ≤ h → h ≤ K.side s → is_some (K.gives s w h) ≡ true
  -- the live rectangles lie inside, and share no point
  pub inside : (s : K.carrier) (i : ℕ) (r : Rect) → K.sound s → K.live s i ≡ Some r → Inside (K.side s) r
  pub apart : (s : K.carrier) (i j : ℕ) (r t : Rect) → K.sound s → (i ≢ j) → K.live s i ≡ Some r → K.live s j ≡ Some t → Apart r t
  -- at most 256 are live, and with 256 live there is no place
  pub few : (s : K.carrier) (is : List ℕ) → K.sound s → InUse (K.live s) is → length is ≤ 256
  pub full : (s : K.carrier) (w h : ℕ) (is : List ℕ) → K.sound s → InUse (K.live s) is → length is ≡ 256 → K.gives s w h ≡ None
