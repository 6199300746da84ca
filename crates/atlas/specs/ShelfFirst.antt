-- The shelf atlas takes the first shelf that fits, and an empty shelf vanishes when none lies below it.
use Rattle.std.specs.Prelude.{◌≡◌, ℕ, zero, suc, ◌+◌, ◌<◌, ◌≤◌, true, List, [], ◌∷◌, length, take, is_some, Some, Option, slice_index, refl}
use Rattle.std.proofs.Common.{sym, ap, subst, ◌∙◌, ⊎_elim, arith}
use Rattle.std.proofs.lemmas.List.{length-take-le, take_all}
use Rattle.std.proofs.lemmas.Bool.{cases_Bool}
use Rattle.atlas.specs.declared.rect.Rect.{Rect}
use Rattle.atlas.specs.Slots.{Slots, slot, allowed}
use Rattle.std.specs.Option.{option_or}
use Rattle.atlas.specs.Shelf.{Shelved, ShelfSound, depth, furthest, new_shelf, chosen, standing, emptied, shelf_gives, shelf_freed, top, Fits, TakesFirst, Bare, Vanished}
use Rattle.atlas.specs.SlotFacts.{slot_before, gives_when}
use Rattle.atlas.specs.ShelfFacts.{depth-cons, furthest_covers, furthest_bare, stand_at, standing_few, standing_gone, standing_end, fit_some, fit_none}
use Rattle.atlas.specs.ShelfLaw.{freed_some, freed_none}

module _ (S : ℕ) (ss : Slots) (w h : ℕ) where
  -- the shelf k of those from y on fits
  pub record FitsFrom (y : ℕ) (ts : List ℕ) (k : ℕ) : Type 0 where
    pub there : k < length ts
    pub tall : h ≤ slice_index ts k
    pub wide : furthest (y + depth (take k ts)) ss + w ≤ S

  at_same : (a b : ℕ) → a ≡ b → furthest a ss ≡ furthest b ss
  at_same a b e = ap (λ y. furthest y ss) e

  here : (y t : ℕ) (ts : List ℕ) → h ≤ t → furthest y ss + w ≤ S → FitsFrom y (t ∷ ts) 0
  here y t ts l m = let e = at_same (y + 0) y (omega arith) in record { there = omega arith; tall = l; wide = omega arith }

  later : (y t : ℕ) (ts : List ℕ) (k : ℕ) → FitsFrom (y + t) ts k → FitsFrom y (t ∷ ts) (suc k)
  later y t ts k f =
      let e = at_same ((y + t) + depth (take k ts)) (y + depth (t ∷ take k ts)) (omega (arith, depth-cons t (take k ts))) in
      record { there = let z = f.there in omega arith; tall = f.tall; wide = let z = f.wide in omega arith }

  sooner : (y t : ℕ) (ts : List ℕ) (k : ℕ) → FitsFrom y (t ∷ ts) (suc k) → FitsFrom (y + t) ts k
  sooner y t ts k f =
      let e = at_same ((y + t) + depth (take k ts)) (y + depth (t ∷ take k ts)) (omega (arith, depth-cons t (take k ts))) in
      record { there = let z = f.there in omega arith; tall = f.tall; wide = let z = f.wide in omega arith }

  -- a shelf that does not fit is passed by
  passes : (y t : ℕ) (ts : List ℕ) → (FitsFrom y (t ∷ ts) 0 → ⊥) → chosen S ss w h y (t ∷ ts) ≡ chosen S ss w h (y + t) ts
  passes y t ts n = ap (λ o. option_or o (chosen S ss w h (y + t) ts)) (fit_none h t (furthest y ss + w) S (furthest y ss, y) (λ l m. n (here y t ts l m)))

  pub first_taken : (y : ℕ) (ts : List ℕ) (k : ℕ) → FitsFrom y ts k → ((j : ℕ) → j < k → FitsFrom y ts j → ⊥) → chosen S ss w h y ts ≡ Some (furthest (y + depth (take k ts)) ss, y + depth (take k ts))
  first_taken y [] k f n = absurd (let z = f.there in omega arith)
  first_taken y (t ∷ ts) zero f n =
      let z : y ≡ y + 0 = omega arith in
      let e = at_same y (y + 0) z in
      ap (λ o. option_or o (chosen S ss w h (y + t) ts)) (fit_some h t (furthest y ss + w) S (furthest y ss, y) f.tall (let m = f.wide in omega arith))
      ∙ ap (λ k. Some (furthest k ss, k)) z
  first_taken y (t ∷ ts) (suc k) f n =
      passes y t ts (n 0 (omega arith))
      ∙ (first_taken (y + t) ts k (sooner y t ts k f) (λ j l g. n (suc j) (omega arith) (later y t ts j g))
      ∙ ap (λ k. Some (furthest k ss, k)) (omega (arith, depth-cons t (take k ts))))

  pub none_taken : (y : ℕ) (ts : List ℕ) → ((k : ℕ) → FitsFrom y ts k → ⊥) → chosen S ss w h y ts ≡ new_shelf S w h (y + depth ts)
  none_taken y [] n = ap (new_shelf S w h) (omega arith)
  none_taken y (t ∷ ts) n =
      passes y t ts (n 0)
      ∙ (none_taken (y + t) ts (λ k g. n (suc k) (later y t ts k g))
      ∙ ap (new_shelf S w h) (omega (arith, depth-cons t ts)))

module _ (s : Shelved) (w h : ℕ) where
  top_same : (k : ℕ) → 0 + top s k ≡ top s k
  top_same k = omega arith

  from_top : (k : ℕ) → Fits s w h k → FitsFrom s.side s.slots w h 0 s.shelves k
  from_top k f = let e = ap (λ y. furthest y s.slots) (top_same k) in record { there = f.there; tall = f.tall; wide = let z = f.wide in omega arith }

  to_top : (k : ℕ) → FitsFrom s.side s.slots w h 0 s.shelves k → Fits s w h k
  to_top k f = let e = ap (λ y. furthest y s.slots) (top_same k) in record { there = f.there; tall = f.tall; wide = let z = f.wide in omega arith }

  opening : allowed s.slots w h ≡ true → ((k : ℕ) → Fits s w h k → ⊥) → shelf_gives s w h ≡ new_shelf s.side w h (depth s.shelves)
  opening a n = gives_when s.slots w h (chosen s.side s.slots w h 0 s.shelves) a ∙ (none_taken s.side s.slots w h 0 s.shelves (λ k f. n k (to_top k f)) ∙ ap (new_shelf s.side w h) (omega arith))

  pub takes_first : TakesFirst s w h (shelf_gives s w h)
  takes_first = record {
    takes = λ a k f n. gives_when s.slots w h (chosen s.side s.slots w h 0 s.shelves) a ∙ (first_taken s.side s.slots w h 0 s.shelves k (from_top k f) (λ j l g. n j l (to_top j g)) ∙ ap (λ y. Some (furthest y s.slots, y)) (top_same k));
    opens = λ a n l m. opening a n ∙ fit_some w s.side (depth s.shelves + h) s.side (0, depth s.shelves) l m;
    none = λ a n o. opening a n ∙ fit_none w s.side (depth s.shelves + h) s.side (0, depth s.shelves) (λ l m. ⊎_elim (λ u. omega arith) (λ u. omega arith) o);
  }

  -- the same of what the shelves answered to an allowed size
  pub takes_chosen : (o : Option (ℕ × ℕ)) → o ≡ chosen s.side s.slots w h 0 s.shelves → allowed s.slots w h ≡ true → TakesFirst s w h o
  takes_chosen o e t = subst (TakesFirst s w h) (sym (e ∙ sym (gives_when s.slots w h (chosen s.side s.slots w h 0 s.shelves) t))) takes_first

-- the shelves of t are those of s that stand under t's pictures
module _ (s t : Shelved) (left : t.shelves ≡ take (standing t.slots 0 s.shelves) s.shelves) (wide : (i : ℕ) (r : Rect) → slot t.slots i ≡ Some r → 1 ≤ r.width) where
  count : length t.shelves ≡ standing t.slots 0 s.shelves
  count = ap length left ∙ length-take-le (standing t.slots 0 s.shelves) s.shelves (standing_few t.slots 0 s.shelves)

  bare : (y : ℕ) → furthest y t.slots ≡ 0 → Bare t y
  bare y e i r q at = let p = furthest_covers y t.slots i r q at in let w = wide i r q in omega arith

  at_top : (k : ℕ) → furthest (0 + top s k) t.slots ≡ furthest (top s k) t.slots
  at_top k = ap (λ y. furthest y t.slots) (omega arith)

  pub vanished : Vanished s t
  vanished = record {
    stay = left ∙ ap (λ k. take k s.shelves) (sym count);
    gone = λ k l m. bare (top s k) (sym (at_top k) ∙ standing_gone t.slots 0 s.shelves k (let e = count in omega arith) m);
    last = λ k e b. let p = standing_end t.slots 0 s.shelves k (let c = count in omega arith) in let q = furthest_bare (top s k) t.slots b in let r = at_top k in omega arith;
  }

pub freed_vanished : (s : Shelved) (i : ℕ) → ShelfSound s → Vanished s (shelf_freed s i)
freed_vanished s i v =
    ⊎_elim
    (λ e. subst (Vanished s) (sym (freed_some s i e)) (vanished s (emptied s i) refl (λ j r q. (stand_at s.shelves s.slots j r v.held (slot_before s.slots i j r q)).wide)))
    (λ e. subst (Vanished s) (sym (freed_none s i e)) (vanished s s (sym (ap (λ k. take k s.shelves) v.trim ∙ take_all (length s.shelves) s.shelves (omega arith))) (λ j r q. (stand_at s.shelves s.slots j r v.held q).wide)))
    (cases_Bool (is_some (slot s.slots i)))
