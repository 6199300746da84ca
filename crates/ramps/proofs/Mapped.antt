-- The first place at which a test passes, in the images of a list.
use Rattle.std.proofs.Common.{◌≡◌, ℕ, ◌+◌, Bool, not, cond, Option, List, [], ◌∷◌, map, refl, sym, ap, ◌∙◌}
use Rattle.std.specs.List.{position, prefix_len}
use Rattle.std.proofs.lemmas.List.{length-map}

module _ {X Y : Type 0} (f : X → Y) where
  prefix_len-map : (t : Y → Bool) (xs : List X) → prefix_len t (map f xs) ≡ prefix_len (λ x. t (f x)) xs
  prefix_len-map t [] = refl
  prefix_len-map t (x ∷ xs) = ap (λ n. cond (t (f x)) (1 + n) 0) (prefix_len-map t xs)

  position-map : (t : Y → Bool) (xs : List X) → position t (map f xs) ≡ position (λ x. t (f x)) xs
  position-map t xs = rw (prefix_len-map (λ y. not (t y)) xs, length-map xs f)

  -- what a search in the list itself answers
  pub position-in : (t : Y → Bool) (xs : List X) (ys : List Y) (o : Option ℕ) → map f xs ≡ ys → o ≡ position (λ x. t (f x)) xs → o ≡ position t ys
  position-in t xs ys o e p = p ∙ sym (position-map t xs) ∙ ap (position t) e
