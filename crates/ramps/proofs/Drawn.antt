-- The samples of the rows, row by row.
use Rattle.std.proofs.Common.{◌≡◌, ℕ, ◌+◌, ◌<◌, List, [], ◌∷◌, ◌++◌, map, length, get_or, take, sym, ap, ◌∙◌}
use Rattle.std.specs.List.{flat_map}
use Rattle.std.proofs.lemmas.List.Folds.{flat_map-map}
use Rattle.std.proofs.lemmas.List.{map_more, get_or-take, get_or-map}
use Rattle.ramps.specs.Rows.{RampRow, no_row}
use Rattle.ramps.specs.Sheet.{row_words, Drawn}

-- one more row is drawn
pub drawn_more : (rs : List RampRow) (i : ℕ) (before after : List (List ℕ)) (words : List ℕ) → i < length rs → take i before ≡ map row_words (take i rs)
    → take (i + 1) after ≡ take i before ++ words ∷ [] → words ≡ row_words (get_or rs i no_row) → take (i + 1) after ≡ map row_words (take (i + 1) rs)
drawn_more rs i before after words h e p q =
    p ∙ ap (λ xs. xs ++ words ∷ []) e ∙ ap (λ x. map row_words (take i rs) ++ x ∷ []) q ∙ sym (map_more row_words rs i no_row h)

-- the samples of all rows, row after row
pub drawn_flat : (rs : List RampRow) (all : List (List ℕ)) → Drawn rs all → flat_map (λ x. x) (take (length rs) all) ≡ flat_map row_words rs
drawn_flat rs all e = ap (flat_map (λ x. x)) e ∙ flat_map-map (λ x. x) row_words rs

-- the samples of row i
pub drawn_at : (rs : List RampRow) (all : List (List ℕ)) (i : ℕ) → Drawn rs all → i < length rs → get_or all i [] ≡ row_words (get_or rs i no_row)
drawn_at rs all i e h = sym (get_or-take (length rs) all i [] h) ∙ ap (λ xs. get_or xs i []) e ∙ get_or-map row_words rs i no_row [] h
