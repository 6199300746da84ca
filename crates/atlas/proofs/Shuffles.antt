-- The order of the rectangles is of no account to what is free.
use Rattle.std.proofs.Common.{◌≡◌, ℕ, ◌+◌, true, cond, ◌&&◌, leb, Some, None, ap}
use Rattle.std.specs.Cmp.{both_ways}
use Rattle.std.specs.List.Sorted.{IsPermutation}
use Rattle.std.proofs.lemmas.List.Sorted.{IsPermutation-sym, All-permutation}
use Rattle.std.proofs.lemmas.List.Sums.{AllPass-from_list_all, list_all-from_AllPass}
use Rattle.atlas.specs.declared.rect.Rect.{Rect}
use Rattle.atlas.specs.Rects.{rect}
use Rattle.atlas.specs.Slots.{Slots, misses, clear}
use Rattle.atlas.specs.Corner.{place_at, in_row, least_place}
use Rattle.atlas.specs.Searches.{first_same}

still_clear : (r : Rect) (ss ts : Slots) → IsPermutation ss ts → clear r ss ≡ true → clear r ts ≡ true
still_clear r ss ts moved e = list_all-from_AllPass (misses r) ts (All-permutation (λ o. misses r o ≡ true) ss ts moved (AllPass-from_list_all (misses r) ss e))

module _ (ss ts : Slots) (moved : IsPermutation ss ts) where
  same_clear : (r : Rect) → clear r ts ≡ clear r ss
  same_clear r = both_ways (clear r ts) (clear r ss) (still_clear r ts ss (IsPermutation-sym ss ts moved)) (still_clear r ss ts moved)

  pub same_least : (S w h : ℕ) → least_place S ts w h ≡ least_place S ss w h
  same_least S w h =
      first_same (in_row S ts w h) (in_row S ss w h) (S + 1) 0 (λ y.
      first_same (place_at S ts w h y) (place_at S ss w h y) (S + 1) 0 (λ x.
      ap (λ b. cond (leb (x + w) S && (leb (y + h) S && b)) (Some (x, y)) None) (same_clear (rect x y w h))))
