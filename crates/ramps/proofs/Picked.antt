-- A test of the element at a place, where there is one.
use Rattle.std.proofs.Common.{◌≡◌, ℕ, true, false, Bool, ◌&&◌, ltb, List, map, length, get_or, Some, None, Option, Bor, sym, ap, ◌∙◌}
use Rattle.std.specs.Option.{MatchOption}
use Rattle.std.specs.Slice.{IsItemAt}
use Rattle.std.proofs.lemmas.Bool.{and_left, lt-ltb, le-ltb}
use Rattle.std.proofs.lemmas.List.{get_or-map, length-map}

-- the test is of the images ys of the list
module _ {X Y : Type 0} (f : X → Y) (t : Y → Bool) (xs : List X) (ys : List Y) (e : map f xs ≡ ys) (at : ℕ) (d : Y) where
  pub test_at : {Q : Bor X → Type 0} (o : Option (Bor X)) (r : Bool) → IsItemAt xs at o → MatchOption o (r ≡ false) Q
      → ((x : Bor X) → Q x → r ≡ t (f x.now)) → r ≡ (ltb at (length ys) && t (get_or ys at d))
  test_at None r q m h = m ∙ sym (and_left _ _ (le-ltb at (length ys) (rw (← e, length-map) q.3)))
  test_at (Some x) r q m h =
      let l : ltb at (length ys) ≡ true = rw (← e, length-map) (lt-ltb at (length xs) q.3.0) in
      let g : get_or ys at d ≡ f x.now = rw (← e) (get_or-map f xs at x.now d q.3.0 ∙ ap f (sym q.1)) in
      h x m ∙ ap t (sym g) ∙ ap (λ b. b && t (get_or ys at d)) (sym l)
