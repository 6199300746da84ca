-- What the shelves answer is what the kind gives, on the first shelf that fits.
use Rattle.std.proofs.Common.{◌≡◌, ℕ, true, Some, Option, set, sym, ap, ◌∙◌, arith}
use Rattle.atlas.specs.declared.shelf_atlas.ShelfAtlas.{ShelfAtlas}
use Rattle.fixed_vec.specs.Items.{items_of}
use Rattle.atlas.specs.Rects.{rect}
use Rattle.atlas.specs.Slots.{vacant, allowed}
use Rattle.atlas.specs.Shelf.{ShelfSound, depth, put_on, open_with, chosen}
use Rattle.atlas.specs.ShelfView.{shelved}
use Rattle.atlas.specs.SlotFacts.{Gave, allowed_parts}
use Rattle.atlas.specs.ShelfLaw.{chosen_free, few_shelves, place_open, place_put}
use Rattle.atlas.specs.ShelfCode.{state_sound, same_sound}
use Rattle.atlas.proofs.shelf_atlas.ShelfAtlasAtlas.place.Goals.{then-y-bottom, else-y-bottom}
use Rattle.atlas.proofs.shelf_atlas.ShelfAtlasAtlas.place.Goals as goal

-- what was chosen for a size that is allowed
picked : (a : ShelfAtlas) (w h x y : ℕ) {o : Option (ℕ × ℕ)} → allowed a.square.slots w h ≡ true → o ≡ chosen a.square.side a.square.slots w h 0 (items_of a.shelves) → o ≡ Some (x, y)
    → Gave a.square.slots w h (chosen a.square.side a.square.slots w h 0 (items_of a.shelves)) (x, y)
picked a w h x y t e q = record { may = allowed_parts a.square.slots w h t; found = sym e ∙ q }

pub push-requires : goal.push-requires
push-requires c =
    let a = c.args.self.now in
    let g = picked a c.args.width c.args.height c.in_ok-x.x c.in_ok-x.y c.in_ok-handle.ensures.0 c.choose.ensures c.in_ok-x.was in
    (omega arith, few_shelves (shelved a) (state_sound a) _ _ _ _ g (c.if-y-bottom.true ∙ c.bottom.ensures ∙ ap depth c.as_slice.ensures.value))

pub put-requires-clause-inside : goal.put-requires-clause-inside
put-requires-clause-inside c =
    let a = c.args.self.now in
    let g = picked a c.args.width c.args.height c.in_ok-x.x c.in_ok-x.y c.in_ok-handle.ensures.0 c.choose.ensures c.in_ok-x.was in
    (chosen_free (shelved a) (state_sound a) _ _ _ _ g).inside

pub put-requires-clause-apart : goal.put-requires-clause-apart
put-requires-clause-apart c =
    let a = c.args.self.now in
    let g = picked a c.args.width c.args.height c.in_ok-x.x c.in_ok-x.y c.in_ok-handle.ensures.0 c.choose.ensures c.in_ok-x.was in
    (chosen_free (shelved a) (state_sound a) _ _ _ _ g).clear

pub invariant_of-self : goal.invariant_of-self
invariant_of-self c =
    let a = c.args.self.now in
    let s = shelved a in
    let r = rect c.in_ok-x.x c.in_ok-x.y c.args.width c.args.height in
    let g = picked a c.args.width c.args.height c.in_ok-x.x c.in_ok-x.y c.in_ok-handle.ensures.0 c.choose.ensures c.in_ok-x.was in
    let deep = c.bottom.ensures ∙ ap depth c.as_slice.ensures.value in
    let slots : c.put.new.self.slots ≡ set a.square.slots (vacant a.square.slots) (Some r) = c.put.ensures.slots ∙ ap (λ i. set a.square.slots i (Some r)) c.in_ok-handle.ensures.1 in
    let shelves = items_of c.if-y-bottom.self.1.1.0 in
    let V : ShelfSound (record { side = c.put.new.self.side; shelves = shelves; slots = c.put.new.self.slots }) =
    elim c.if-y-bottom.branch [
      | then-y-bottom w ↦
          same_sound (open_with s (vacant a.square.slots) r) _ shelves _ c.put.ensures.side (ap (λ q. items_of q.1.1.0) w.self-is ∙ w.push.ensures) slots
          (place_open s (state_sound a) _ _ _ _ g (w.if-y-bottom.true ∙ deep))
      | else-y-bottom w ↦
          same_sound (put_on s (vacant a.square.slots) r) _ shelves _ c.put.ensures.side (ap (λ q. items_of q.1.1.0) w.self-is) slots
          (place_put s (state_sound a) _ _ _ _ g (λ e. w.if-y-bottom.false (e ∙ sym deep)))
    ] in
    record { tall = V.tall; within = V.within; held = V.held; trim = V.trim }
