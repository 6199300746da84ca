-- What the code of the shelf atlas keeps true, from what its calls answered.
use Rattle.std.specs.Prelude.{true, false, take, is_some, None, slice_set, ◌≡◌, ℕ, List}
use Rattle.std.proofs.Common.{ap, ◌∙◌, sym, subst}
use Rattle.atlas.specs.declared.shelf_atlas.ShelfAtlas.{ShelfAtlas}
use Rattle.atlas.specs.Slots.{Slots, slot}
use Rattle.atlas.specs.Shelf.{Shelved, ShelfSound, standing, emptied, shelf_freed, Vanished}
use Rattle.atlas.specs.ShelfView.{shelved}
use Rattle.atlas.specs.ShelfLaw.{emptied_sound, freed_some, freed_none}
use Rattle.atlas.specs.ShelfFirst.{freed_vanished}

pub state_sound : (a : ShelfAtlas) → ShelfSound (shelved a)
state_sound a = record { square = a.square.sound; tall = a.tall; within = a.within; held = a.held; trim = a.trim }

-- a state with the parts of s
module _ (s : Shelved) (n : ℕ) (ts : List ℕ) (ss : Slots) (side : n ≡ s.side) (shelves : ts ≡ s.shelves) (slots : ss ≡ s.slots) where
  pub same_state : record { side = n; shelves = ts; slots = ss } ≡ s
  same_state = rw (side, shelves, slots)

  pub same_sound : ShelfSound s → ShelfSound (record { side = n; shelves = ts; slots = ss })
  same_sound v = subst ShelfSound (sym same_state) v

-- what freeing leaves
pub code_vanished : (s : Shelved) (i : ℕ) → ShelfSound s → (t : Shelved) → t ≡ shelf_freed s i → Vanished s t
code_vanished s i v t q = subst (Vanished s) (sym q) (freed_vanished s i v)

-- freeing: the slot i is emptied, and k shelves are left
module _ (s : Shelved) (v : ShelfSound s) (i n k : ℕ) (us ts : List ℕ) (ss : Slots) (side : n ≡ s.side) (slots : ss ≡ slice_set s.slots i None) (all : us ≡ s.shelves) (left : k ≡ standing ss 0 us) (shelves : ts ≡ take k s.shelves) where
  emptied_state : record { side = n; shelves = ts; slots = ss } ≡ emptied s i
  emptied_state = same_state (emptied s i) n ts ss side (shelves ∙ ap (λ j. take j s.shelves) (left ∙ ap (standing ss 0) all ∙ ap (λ t. standing t 0 s.shelves) slots)) slots

  pub code_sound : ShelfSound (record { side = n; shelves = ts; slots = ss })
  code_sound = subst ShelfSound (sym emptied_state) (emptied_sound s v i)

  pub live_vanished : is_some (slot s.slots i) ≡ true → Vanished s (record { side = n; shelves = ts; slots = ss })
  live_vanished e = code_vanished s i v _ (emptied_state ∙ sym (freed_some s i e))

pub kept_vanished : (s : Shelved) (i : ℕ) → ShelfSound s → is_some (slot s.slots i) ≡ false → Vanished s s
kept_vanished s i v e = code_vanished s i v s (sym (freed_none s i e))
