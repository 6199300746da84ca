-- The laws of the shelf atlas.
use Rattle.std.specs.Prelude.{◌≡◌, ℕ, ◌+◌, ◌<◌, ◌≤◌, min, true, false, cond, List, [], ◌∷◌, ◌++◌, length, take, replicate, is_some, Some, None, Option, ◌==◌, ◌≢◌, slice_set, refl}
use Rattle.std.proofs.Common.{sym, ap, subst, ◌∙◌, inr, ⊎_elim, arith, length-append}
use Rattle.std.proofs.lemmas.List.{length-take-le, nil_from_length}
use Rattle.std.proofs.lemmas.List.Sums.{sum_by_push, sum_by-take-le}
use Rattle.std.proofs.lemmas.Bool.{cases_eq, cases_Bool, cond-true, cond-false, eq-eqb, ne_eqb}
use Rattle.std.proofs.lemmas.Option.{none-some}
use Rattle.atlas.specs.declared.rect.Rect.{Rect}
use Rattle.atlas.specs.Rects.{rect, Inside, Apart}
use Rattle.atlas.specs.Slots.{Slots, slot, vacant}
use Rattle.atlas.specs.Kind.{AtlasLaws, Free}
use Rattle.atlas.specs.Shelf.{Shelved, ShelfSound, shelf, shelf_gives, shelf_put, shelf_freed, emptied, put_on, open_with, chosen, standing, stands, depth}
use Rattle.atlas.specs.RectFacts.{missed}
use Rattle.atlas.specs.Searches.{none_unless}
use Rattle.atlas.specs.SlotFacts.{vacant_empty, slot_set, slot_emptied, slot_before, slot_none, none_vacant, used_few, used_full, separate_at, sound_set, sound_emptied, sound_none, allowed_from, gives_when, gives_none, Gave, gave}
use Rattle.atlas.specs.ShelfFacts.{furthest_covers, furthest_bare, furthest_more, stands_more, stands_last, stand_at, stand_from, stand_set, tall_push, tall_take, tall_few, standing_few, standing_take, standing_last, standing_none, standing_more, stands_still, fit_some, goes, goes_clear}

module _ (s : Shelved) (v : ShelfSound s) where
  abbrev ts : List ℕ
  ts = s.shelves

  abbrev ss : Slots
  ss = s.slots

  -- a picture that is clear of every live one, under a handle
  module _ (i : ℕ) (r : Rect) (l : i < 256) (w : 1 ≤ r.width) (in-side : Inside s.side r) (far : (j : ℕ) (t : Rect) → slot ss j ≡ Some t → Apart r t) where
    len : i < length ss
    len = let k = v.square.whole in omega arith

    pub put_sound : slot ss i ≡ None → stands 0 ts r ≡ true → ShelfSound (put_on s i r)
    put_sound n o = record {
      square = sound_set s.side ss v.square i r l in-side far;
      tall = v.tall;
      within = v.within;
      held = stand_set ts ss i r len (record { wide = w; on = o }) (λ j t e. stand_at ts ss j t v.held e);
      trim = standing_more ss (slice_set ss i (Some r)) 0 ts (λ k. furthest_more k ss i (Some r) n) v.trim;
    }

    pub open_sound : 1 ≤ r.height → r.y ≡ depth ts → ShelfSound (open_with s i r)
    open_sound h e =
        let us = slice_set ss i (Some r) in
        let here : slot us i ≡ Some r = slot_set ss i i (Some r) len ∙ cond-true (i == i) (Some r) (slot ss i) (eq-eqb i i refl) in
        let z : r.y ≡ 0 + depth ts = omega arith in
        let reached = furthest_covers (0 + depth ts) us i r here z in
        record {
          square = sound_set s.side ss v.square i r l in-side far;
          tall = tall_push ts r.height v.tall h;
          within = let k = sum_by_push (λ x. x) ts r.height in let b = in-side.1 in omega arith;
          held = stand_set (ts ++ r.height ∷ []) ss i r len (record { wide = w; on = stands_last 0 ts r z }) (λ j t q. let p = stand_at ts ss j t v.held q in record { wide = p.wide; on = stands_more 0 ts (r.height ∷ []) t p.on });
          trim = standing_last us 0 ts r.height (omega arith) ∙ sym (let k = length-append ts (r.height ∷ []) in omega arith);
        }

  pub emptied_sound : (i : ℕ) → ShelfSound (emptied s i)
  emptied_sound i =
      let us = slice_set ss i None in
      let k = standing us 0 ts in
      record {
        square = sound_emptied s.side ss v.square i;
        tall = tall_take k ts v.tall;
        within = let d = sum_by-take-le (λ x. x) ts k in let e = v.within in omega arith;
        held = stand_from (take k ts) us (λ j r e. let p = stand_at ts ss j r v.held (slot_before ss i j r e) in record { wide = p.wide; on = stands_still us 0 ts j r e p.wide p.on });
        trim = standing_take us 0 ts ∙ sym (length-take-le k ts (standing_few us 0 ts));
      }

  -- the place that was chosen
  module _ (w h a b : ℕ) (picked : Gave ss w h (chosen s.side ss w h 0 ts) (a, b)) where
    goes_inside : Inside s.side (rect a b w h)
    goes_inside =
        let g = goes s.side ss w h 0 ts a b picked.found in
        let d = v.within in
        (g.right, ⊎_elim (λ c. let k = c.1 in omega arith) (λ c. c.1) g.spot)

    goes_far : (j : ℕ) (t : Rect) → slot ss j ≡ Some t → Apart (rect a b w h) t
    goes_far j t q = goes_clear s.side ss w h 0 ts a b j t q (inr (stand_at ts ss j t v.held q).on) picked.found

    pub chosen_free : Free shelf s w h a b
    chosen_free = record { inside = goes_inside; clear = goes_far }

    pub place_open : b ≡ depth ts → ShelfSound (open_with s (vacant ss) (rect a b w h))
    place_open q = open_sound (vacant ss) (rect a b w h) picked.may.space picked.may.wide goes_inside goes_far picked.may.high q

    pub place_put : (b ≢ depth ts) → ShelfSound (put_on s (vacant ss) (rect a b w h))
    place_put ne =
        let g = goes s.side ss w h 0 ts a b picked.found in
        put_sound (vacant ss) (rect a b w h) picked.may.space picked.may.wide goes_inside goes_far (vacant_empty ss) (⊎_elim (λ c. c.0) (λ c. absurd (ne (let k = c.0 in omega arith))) g.spot)

    -- each shelf is at least 1 tall, so there is room to note one more
    pub few_shelves : b ≡ depth ts → length ts < 8192
    few_shelves q =
        let m = picked.may.high in
        let i = goes_inside.1 in
        let t = tall_few ts v.tall in
        let k = v.square.small in
        omega arith

module _ (s : Shelved) (w h : ℕ) where
  pub put_opens : (p : ℕ × ℕ) → p.1 ≡ depth s.shelves → shelf_put (Some p) s w h ≡ open_with s (vacant s.slots) (rect p.0 p.1 w h)
  put_opens p q = cond-true (p.1 == depth s.shelves) (open_with s (vacant s.slots) (rect p.0 p.1 w h)) (put_on s (vacant s.slots) (rect p.0 p.1 w h)) (eq-eqb _ _ q)

  pub put_sets : (p : ℕ × ℕ) → (p.1 ≢ depth s.shelves) → shelf_put (Some p) s w h ≡ put_on s (vacant s.slots) (rect p.0 p.1 w h)
  put_sets p q = cond-false (p.1 == depth s.shelves) (open_with s (vacant s.slots) (rect p.0 p.1 w h)) (put_on s (vacant s.slots) (rect p.0 p.1 w h)) (ne_eqb _ _ q)

  -- on whichever shelf, the picture takes a slot
  put_slots : (p : ℕ × ℕ) → (shelf_put (Some p) s w h).slots ≡ slice_set s.slots (vacant s.slots) (Some (rect p.0 p.1 w h))
  put_slots p = ⊎_elim (λ q. ap (λ t. t.slots) (put_opens p q)) (λ q. ap (λ t. t.slots) (put_sets p q)) (cases_eq p.1 (depth s.shelves))

  put_side : (o : Option (ℕ × ℕ)) → (shelf_put o s w h).side ≡ s.side
  put_side None = refl
  put_side (Some p) = ⊎_elim (λ q. ap (λ t. t.side) (put_opens p q)) (λ q. ap (λ t. t.side) (put_sets p q)) (cases_eq p.1 (depth s.shelves))

  abbrev choice : Option (ℕ × ℕ)
  choice = chosen s.side s.slots w h 0 s.shelves

  sound_put : (o : Option (ℕ × ℕ)) → shelf_gives s w h ≡ o → ShelfSound s → ShelfSound (shelf_put o s w h)
  sound_put None e v = v
  sound_put (Some p) e v =
      let g = gave s.slots w h choice p e in
      ⊎_elim
      (λ q. subst ShelfSound (sym (put_opens p q)) (place_open s v w h p.0 p.1 g q))
      (λ q. subst ShelfSound (sym (put_sets p q)) (place_put s v w h p.0 p.1 g q))
      (cases_eq p.1 (depth s.shelves))

  gives_free : (a b : ℕ) → ShelfSound s → shelf_gives s w h ≡ Some (a, b) → Free shelf s w h a b
  gives_free a b v e = let g = gave s.slots w h choice (a, b) e in chosen_free s v w h a b g

  -- with nothing live no shelf stands
  roomy_in : ShelfSound s → ((i : ℕ) → slot s.slots i ≡ None) → 1 ≤ w → w ≤ s.side → 1 ≤ h → h ≤ s.side → is_some (shelf_gives s w h) ≡ true
  roomy_in v f w1 wS h1 hS =
      let n = none_vacant s.slots f in
      let k = standing_none s.slots 0 s.shelves (λ y. furthest_bare y s.slots (λ i r e _. none-some r (sym (f i) ∙ e))) in
      let t = v.trim in
      let l : length s.shelves ≡ 0 = omega arith in
      ap is_some (gives_when s.slots w h choice (allowed_from s.slots w h w1 h1 (omega arith)) ∙ ap (chosen s.side s.slots w h 0) (nil_from_length s.shelves l) ∙ fit_some w s.side (0 + h) s.side (0, 0) wS (omega arith))

module _ (s : Shelved) (j : ℕ) where
  pub freed_some : is_some (slot s.slots j) ≡ true → shelf_freed s j ≡ emptied s j
  freed_some e = cond-true (is_some (slot s.slots j)) (emptied s j) s e

  pub freed_none : is_some (slot s.slots j) ≡ false → shelf_freed s j ≡ s
  freed_none e = cond-false (is_some (slot s.slots j)) (emptied s j) s e

  freed_side : (shelf_freed s j).side ≡ s.side
  freed_side = ⊎_elim (λ e. ap (λ t. t.side) (freed_some e)) (λ e. ap (λ t. t.side) (freed_none e)) (cases_Bool (is_some (slot s.slots j)))

  sound_freed : ShelfSound s → ShelfSound (shelf_freed s j)
  sound_freed v =
      ⊎_elim
      (λ e. subst ShelfSound (sym (freed_some e)) (emptied_sound s v j))
      (λ e. subst ShelfSound (sym (freed_none e)) v)
      (cases_Bool (is_some (slot s.slots j)))

  freed_slot : (i : ℕ) → slot (shelf_freed s j).slots i ≡ cond (i == j) None (slot s.slots i)
  freed_slot i = look (slot s.slots j) refl
    where
      look : (o : Option Rect) → slot s.slots j ≡ o → slot (shelf_freed s j).slots i ≡ cond (i == j) None (slot s.slots i)
      look (Some r) e = ap (λ t. slot t.slots i) (freed_some (ap is_some e)) ∙ slot_emptied s.slots j i
      look None e = ap (λ t. slot t.slots i) (freed_none (ap is_some e)) ∙ ⊎_elim
          (λ q. ap (slot s.slots) q ∙ e ∙ sym (cond-true (i == j) None (slot s.slots i) (eq-eqb i j q)))
          (λ q. sym (cond-false (i == j) None (slot s.slots i) (ne_eqb i j q)))
          (cases_eq i j)

pub shelf_laws : AtlasLaws shelf
shelf_laws = record {
  sound_empty = λ n. record { square = sound_none (min n 8192) (omega arith); tall = refl; within = omega arith; held = stand_from [] (replicate 256 None) (λ i r e. absurd (none-some r (sym (slot_none 256 i) ∙ e))); trim = refl };
  sound_placed = λ s w h v. sound_put s w h (shelf_gives s w h) refl v;
  sound_freed = λ s i v. sound_freed s i v;
  small = λ s v. v.square.small;
  side_empty = λ n. refl;
  capped = λ n u. ap (λ k. record { side = k; shelves = []; slots = replicate 256 None }) (omega arith);
  side_placed = λ s w h. put_side s w h (shelf_gives s w h);
  side_freed = λ s i. freed_side s i;
  free = λ s w h x y v e. gives_free s w h x y v e;
  sized = λ s w h x y e. let g = (gave s.slots w h (choice s w h) (x, y) e).may in (g.wide, g.high);
  sideless = λ s w h v z. none_unless (shelf_gives s w h) (λ p e. let f = (gives_free s w h p.0 p.1 v e).inside.0 in let k = (gave s.slots w h (choice s w h) p e).may.wide in omega arith);
  unused = λ s w h x y v e. vacant_empty s.slots;
  adds = λ s w h x y i v e. ap (λ o. slot (shelf_put o s w h).slots i) e ∙ ap (λ t. slot t i) (put_slots s w h (x, y)) ∙ slot_set s.slots (vacant s.slots) i _ (let g = (gave s.slots w h (choice s w h) (x, y) e).may.space in let l = v.square.whole in omega arith);
  none_same = λ s w h e. ap (λ o. shelf_put o s w h) e;
  removes = λ s j i v. freed_slot s j i;
  absent_same = λ s j q. freed_none s j (ap is_some q);
  live_empty = λ n i. slot_none 256 i;
  roomy = λ s w h v f w1 wS h1 hS. roomy_in s w h v f w1 wS h1 hS;
  inside = λ s i r v e. v.square.lies i r e;
  apart = λ s i j r t v ne e q. missed r t (separate_at s.slots v.square.separate i j r t ne e q);
  few = λ s is v u. used_few s.slots is v.square.whole u;
  full = λ s w h is v u n. gives_none s.slots w h (choice s w h) (used_full s.slots w h is v.square.whole u n);
}
