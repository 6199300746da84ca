-- The code's search for a place, which tries only edges, finds the first free place of all.
use Rattle.std.specs.Prelude.{◌≡◌, ℕ, zero, suc, ◌+◌, ◌<◌, ◌≤◌, min, true, false, List, [], ◌∷◌, is_some, Some, None, Option, ◌≢◌, nat_le, nat_lt, fold, filter, filter_map, refl}
use Rattle.std.specs.List.{reduce}
use Rattle.std.proofs.Common.{sym, ap, ◌∙◌, ⊎_elim, arith}
use Rattle.std.proofs.lemmas.Bool.{cases_lt, cases_Bool, cond-true, cond-false, le-leb, lt-leb, lt-ltb, le-ltb, leb-true, and_left, and_right, and_from, and_parts, not_from_true, not_from_false, both_ways}
use Rattle.std.proofs.lemmas.Option.{none-some}
use Rattle.atlas.specs.declared.rect.Rect.{Rect}
use Rattle.atlas.specs.Rects.{rect, meets}
use Rattle.atlas.specs.Slots.{Slots, slot, misses, clear}
use Rattle.atlas.specs.Search.{past, past_all, lower, edge_below}
use Rattle.atlas.specs.Corner.{free_at, place_at, in_row, least_place}
use Rattle.atlas.specs.RectFacts.{met_parts, met_from}
use Rattle.atlas.specs.SlotFacts.{clear_at, clear_from}
use Rattle.atlas.specs.Searches.{Found, first_is, first_none, first_found, none_first}

none_is : {X : Type 0} (o : Option X) → is_some o ≡ false → o ≡ None
none_is None e = refl
none_is (Some x) e = cc

-- a pass to the right
module _ (y w h : ℕ) where
  past_here : (x : ℕ) (r : Rect) → meets (rect x y w h) r ≡ true → past y w h x (Some r) ≡ r.x + r.width
  past_here x r m = cond-true (meets (rect x y w h) r) (r.x + r.width) x m

  past_by : (x : ℕ) (r : Rect) → meets (rect x y w h) r ≡ false → past y w h x (Some r) ≡ x
  past_by x r m = cond-false (meets (rect x y w h) r) (r.x + r.width) x m

  past_on : (x : ℕ) (r : Rect) → meets (rect x y w h) r ≡ true → x < past y w h x (Some r)
  past_on x r m = let p = met_parts (rect x y w h) r m in let e = past_here x r m in omega (arith, p.left)

  past_all_on : (x : ℕ) (ss : Slots) → x ≤ past_all y w h x ss
  past_all_on x [] = omega arith
  past_all_on x (None ∷ ss) = past_all_on x ss
  past_all_on x (Some r ∷ ss) =
      let q = past_all_on (past y w h x (Some r)) ss in
      ⊎_elim (λ m. let p = past_on x r m in omega arith) (λ m. let p = past_by x r m in omega arith) (cases_Bool (meets (rect x y w h) r))

  -- what does not move is clear
  pub past_all_same : (x : ℕ) (ss : Slots) → past_all y w h x ss ≡ x → clear (rect x y w h) ss ≡ true
  past_all_same x [] e = refl
  past_all_same x (None ∷ ss) e = past_all_same x ss e
  past_all_same x (Some r ∷ ss) e =
      ⊎_elim
      (λ m. let p = past_on x r m in let q = past_all_on (past y w h x (Some r)) ss in absurd (omega arith))
      (λ m. and_from _ _ (not_from_false _ m) (past_all_same x ss (ap (λ k. past_all y w h k ss) (sym (past_by x r m)) ∙ e)))
      (cases_Bool (meets (rect x y w h) r))

  -- what is met at x is met up to its right edge
  still_met : (x k : ℕ) (r : Rect) → meets (rect x y w h) r ≡ true → x ≤ k → k < r.x + r.width → meets (rect k y w h) r ≡ true
  still_met x k r m u v = let p = met_parts (rect x y w h) r m in met_from (rect k y w h) r (record { left = v; right = let q = p.right in omega arith; top = p.top; bottom = p.bottom })

  -- what is passed over is not clear
  pub passed_over : (x k : ℕ) (ss : Slots) → x ≤ k → k < past_all y w h x ss → clear (rect k y w h) ss ≡ false
  passed_over x k [] u v = absurd (omega arith)
  passed_over x k (None ∷ ss) u v = passed_over x k ss u v
  passed_over x k (Some r ∷ ss) u v =
      ⊎_elim
      (λ m. let e = past_here x r m in ⊎_elim
      (λ l. and_left (misses (rect k y w h) (Some r)) _ (not_from_true _ (still_met x k r m u l)))
      (λ l. and_right (misses (rect k y w h) (Some r)) _ (passed_over (past y w h x (Some r)) k ss (omega arith) v))
      (cases_lt k (r.x + r.width)))
      (λ m. let e = past_by x r m in and_right (misses (rect k y w h) (Some r)) _ (passed_over (past y w h x (Some r)) k ss (omega arith) v))
      (cases_Bool (meets (rect x y w h) r))

-- the lower edges past y
abbrev edges : ℕ → Slots → List ℕ
edges y ss = filter (λ edge. nat_lt y edge) (filter_map lower ss)

edges_more : (y : ℕ) (r : Rect) (ss : Slots) → y < r.y + r.height → edges y (Some r ∷ ss) ≡ (r.y + r.height) ∷ edges y ss
edges_more y r ss u = cond-true (nat_lt y (r.y + r.height)) ((r.y + r.height) ∷ edges y ss) (edges y ss) (lt-ltb _ _ u)

edges_same : (y : ℕ) (r : Rect) (ss : Slots) → r.y + r.height ≤ y → edges y (Some r ∷ ss) ≡ edges y ss
edges_same y r ss u = cond-false (nat_lt y (r.y + r.height)) ((r.y + r.height) ∷ edges y ss) (edges y ss) (le-ltb _ _ u)

min_within : (a : ℕ) (es : List ℕ) → fold min a es ≤ a
min_within a [] = omega arith
min_within a (e ∷ es) = let p = min_within (min a e) es in omega arith

min_past : (y a : ℕ) (ss : Slots) → y < a → y < fold min a (edges y ss)
min_past y a [] u = u
min_past y a (None ∷ ss) u = min_past y a ss u
min_past y a (Some r ∷ ss) u =
    ⊎_elim
    (λ l. let e = ap (fold min a) (edges_more y r ss l) in let p = min_past y (min a (r.y + r.height)) ss (omega arith) in omega arith)
    (λ l. let e = ap (fold min a) (edges_same y r ss l) in let p = min_past y a ss u in omega arith)
    (cases_lt y (r.y + r.height))

min_least : (y a : ℕ) (ss : Slots) (i : ℕ) (r : Rect) → slot ss i ≡ Some r → y < r.y + r.height → fold min a (edges y ss) ≤ r.y + r.height
min_least y a [] i r q u = absurd (none-some r q)
min_least y a (None ∷ ss) zero r q u = absurd (none-some r q)
min_least y a (None ∷ ss) (suc i) r q u = min_least y a ss i r q u
min_least y a (Some t ∷ ss) zero r q u =
    let z : t ≡ r = cc in
    let b : t.y + t.height ≡ r.y + r.height = ap (λ k. k.y + k.height) z in
    let e = ap (fold min a) (edges_more y t ss (omega arith)) in
    let p = min_within (min a (t.y + t.height)) (edges y ss) in
    omega arith
min_least y a (Some t ∷ ss) (suc i) r q u =
    ⊎_elim
    (λ l. let e = ap (fold min a) (edges_more y t ss l) in let p = min_least y (min a (t.y + t.height)) ss i r q u in omega arith)
    (λ l. let e = ap (fold min a) (edges_same y t ss l) in let p = min_least y a ss i r q u in omega arith)
    (cases_lt y (t.y + t.height))

-- the first edge that counts, with those after it
edge_first : (y : ℕ) (t : Rect) (ss : Slots) (n : ℕ) → edge_below y (Some t ∷ ss) ≡ Some n → y < t.y + t.height → fold min (t.y + t.height) (edges y ss) ≡ n
edge_first y t ss n e l = let z = ap (reduce min) (edges_more y t ss l) in cc

edge_later : (y : ℕ) (t : Rect) (ss : Slots) (o : Option ℕ) → edge_below y (Some t ∷ ss) ≡ o → t.y + t.height ≤ y → edge_below y ss ≡ o
edge_later y t ss o e l = sym (ap (reduce min) (edges_same y t ss l)) ∙ e

pub edge_past : (y : ℕ) (ss : Slots) (n : ℕ) → edge_below y ss ≡ Some n → y < n
edge_past y [] n e = absurd (none-some n e)
edge_past y (None ∷ ss) n e = edge_past y ss n e
edge_past y (Some t ∷ ss) n e =
    ⊎_elim
    (λ l. let k = edge_first y t ss n e l in let p = min_past y (t.y + t.height) ss l in omega arith)
    (λ l. edge_past y ss n (edge_later y t ss (Some n) e l))
    (cases_lt y (t.y + t.height))

pub edge_least : (y : ℕ) (ss : Slots) (n i : ℕ) (r : Rect) → edge_below y ss ≡ Some n → slot ss i ≡ Some r → y < r.y + r.height → n ≤ r.y + r.height
edge_least y [] n i r e q u = absurd (none-some r q)
edge_least y (None ∷ ss) n zero r e q u = absurd (none-some r q)
edge_least y (None ∷ ss) n (suc i) r e q u = edge_least y ss n i r e q u
edge_least y (Some t ∷ ss) n zero r e q u =
    let z : t ≡ r = cc in
    let b : t.y + t.height ≡ r.y + r.height = ap (λ k. k.y + k.height) z in
    let k = edge_first y t ss n e (omega arith) in
    let p = min_within (t.y + t.height) (edges y ss) in
    omega arith
edge_least y (Some t ∷ ss) n (suc i) r e q u =
    ⊎_elim
    (λ l. let k = edge_first y t ss n e l in let p = min_least y (t.y + t.height) ss i r q u in omega arith)
    (λ l. edge_least y ss n i r (edge_later y t ss (Some n) e l) q u)
    (cases_lt y (t.y + t.height))

pub edge_none : (y : ℕ) (ss : Slots) (i : ℕ) (r : Rect) → edge_below y ss ≡ None → slot ss i ≡ Some r → r.y + r.height ≤ y
edge_none y [] i r e q = absurd (none-some r q)
edge_none y (None ∷ ss) zero r e q = absurd (none-some r q)
edge_none y (None ∷ ss) (suc i) r e q = edge_none y ss i r e q
edge_none y (Some t ∷ ss) zero r e q =
    let z : t ≡ r = cc in
    let b : t.y + t.height ≡ r.y + r.height = ap (λ k. k.y + k.height) z in
    ⊎_elim (λ l. absurd (none-some _ (sym e ∙ ap (reduce min) (edges_more y t ss l)))) (λ l. omega arith) (cases_lt y (t.y + t.height))
edge_none y (Some t ∷ ss) (suc i) r e q =
    ⊎_elim (λ l. absurd (none-some _ (sym e ∙ ap (reduce min) (edges_more y t ss l)))) (λ l. edge_none y ss i r (edge_later y t ss None e l) q) (cases_lt y (t.y + t.height))

-- what is clear in the row k is clear in the row y above it, if no lower edge lies between
slides : (x y k w h : ℕ) (ss : Slots) → y ≤ k → ((i : ℕ) (r : Rect) → slot ss i ≡ Some r → y < r.y + r.height → k < r.y + r.height) → clear (rect x k w h) ss ≡ true → clear (rect x y w h) ss ≡ true
slides x y k w h ss u v e =
    clear_from (rect x y w h) ss (λ i r q. ⊎_elim
    (λ m. let p = met_parts (rect x y w h) r m in
    let b = p.bottom in
    absurd (both_ways _ (clear_at (rect x k w h) ss i r e q) (met_from (rect x k w h) r (record { left = p.left; right = p.right; top = v i r q p.top; bottom = omega arith }))))
    (λ m. m)
    (cases_Bool (meets (rect x y w h) r)))

-- a search for the place of a picture, among the slots of a square
pub record Sought : Type 0 where
  pub side : ℕ
  pub slots : Slots
  pub width : ℕ
  pub height : ℕ

module _ (s : Sought) where
  abbrev S : ℕ
  S = s.side

  abbrev ss : Slots
  ss = s.slots

  abbrev w : ℕ
  w = s.width

  abbrev h : ℕ
  h = s.height

  pub record FreeAt (x y : ℕ) : Type 0 where
    pub right : x + w ≤ S
    pub low : y + h ≤ S
    pub clear : clear (rect x y w h) ss ≡ true

  pub free_parts : (x y : ℕ) → free_at S ss w h y x ≡ true → FreeAt x y
  free_parts x y e =
      let p = and_parts _ _ e in
      let q = and_parts _ _ p.1 in
      record { right = leb-true _ _ p.0; low = leb-true _ _ q.0; clear = q.1 }

  pub free_from : (x y : ℕ) → FreeAt x y → free_at S ss w h y x ≡ true
  free_from x y f = and_from _ _ (le-leb _ _ f.right) (and_from _ _ (le-leb _ _ f.low) f.clear)

  not_clear : (x y : ℕ) → clear (rect x y w h) ss ≡ false → free_at S ss w h y x ≡ false
  not_clear x y e = and_right (nat_le (x + w) S) _ (and_right (nat_le (y + h) S) _ e)

  too_right : (x y : ℕ) → S < x + w → free_at S ss w h y x ≡ false
  too_right x y u = and_left _ _ (lt-leb _ _ u)

  too_low : (x y : ℕ) → S < y + h → free_at S ss w h y x ≡ false
  too_low x y u = and_right _ _ (and_left _ _ (lt-leb _ _ u))

  place_none : (x y : ℕ) → free_at S ss w h y x ≡ false → place_at S ss w h y x ≡ None
  place_none x y e = cond-false (free_at S ss w h y x) (Some (x, y)) None e

  place_some : (x y : ℕ) → free_at S ss w h y x ≡ true → place_at S ss w h y x ≡ Some (x, y)
  place_some x y e = cond-true {A = Option (ℕ × ℕ)} (free_at S ss w h y x) (Some (x, y)) None e

  none_placed : (x y : ℕ) → place_at S ss w h y x ≡ None → free_at S ss w h y x ≡ false
  none_placed x y e = ⊎_elim (λ t. absurd (none-some (x, y) (sym (sym (place_some x y t) ∙ e)))) (λ t. t) (cases_Bool (free_at S ss w h y x))

  -- one row
  module _ (y : ℕ) where
    abbrev Blocked : ℕ → Type 0
    Blocked x = (k : ℕ) → k < x → free_at S ss w h y k ≡ false

    pub row_step : (x n : ℕ) → n ≡ past_all y w h x ss → Blocked x → Blocked n
    row_step x n e f k u = ⊎_elim (λ v. f k v) (λ v. not_clear k y (passed_over y w h x k ss v (omega arith))) (cases_lt k x)

    pub row_past : (x n : ℕ) → n ≡ past_all y w h x ss → (n ≢ x) → x < n
    row_past x n e ne = let p = past_all_on y w h x ss in ⊎_elim (λ l. l) (λ l. absurd (ne (omega arith))) (cases_lt x n)

    pub row_found : (x n : ℕ) → n ≡ past_all y w h x ss → n ≡ x → x + w ≤ S → y + h ≤ S → Blocked x → Some (x, y) ≡ in_row S ss w h y
    row_found x n e q u v f =
        let c = past_all_same y w h x ss (sym e ∙ q) in
        sym (first_is (place_at S ss w h y) (S + 1) 0 x (x, y) (omega arith) (omega arith) (λ j _ t. place_none j y (f j t)) (place_some x y (free_from x y (record { right = u; low = v; clear = c }))))

    pub row_none : (x : ℕ) → S < x + w → Blocked x → None ≡ in_row S ss w h y
    row_none x u f = sym (first_none (place_at S ss w h y) (S + 1) 0 (λ j _ _. place_none j y (⊎_elim (λ v. f j v) (λ v. too_right j y (omega arith)) (cases_lt j x))))

    -- a row without a place has none at any x
    none_in_row : in_row S ss w h y ≡ None → (x : ℕ) → free_at S ss w h y x ≡ false
    none_in_row e x = ⊎_elim (λ v. none_placed x y (none_first (place_at S ss w h y) (S + 1) 0 e x (omega arith) (omega arith))) (λ v. too_right x y (omega arith)) (cases_lt x (S + 1))

    row_nowhere : ((x : ℕ) → free_at S ss w h y x ≡ false) → in_row S ss w h y ≡ None
    row_nowhere f = first_none (place_at S ss w h y) (S + 1) 0 (λ x _ _. place_none x y (f x))

  -- all rows
  abbrev Empty : ℕ → Type 0
  Empty y = (k : ℕ) → k < y → in_row S ss w h k ≡ None

  -- what a row below y gives, if no lower edge lies between
  row_below : (y k : ℕ) → in_row S ss w h y ≡ None → y + h ≤ S → y ≤ k → ((i : ℕ) (r : Rect) → slot ss i ≡ Some r → y < r.y + r.height → k < r.y + r.height) → in_row S ss w h k ≡ None
  row_below y k q l u v = row_nowhere k (λ x. ⊎_elim
      (λ t. let p = free_parts x k t in absurd (both_ways _ (none_in_row y q x) (free_from x y (record { right = p.right; low = l; clear = slides x y k w h ss u v p.clear }))))
      (λ t. t)
      (cases_Bool (free_at S ss w h k x)))

  pub rows_step : (y n : ℕ) (o : Option (ℕ × ℕ)) → o ≡ in_row S ss w h y → is_some o ≡ false → edge_below y ss ≡ Some n → y + h ≤ S → Empty y → Empty n
  rows_step y n o i t e l f k u = ⊎_elim (λ v. f k v) (λ v. row_below y k (sym i ∙ none_is o t) l v (λ j r q m. let p = edge_least y ss n j r e q m in omega arith)) (cases_lt k y)

  pub rows_end : (y : ℕ) (o : Option (ℕ × ℕ)) → o ≡ in_row S ss w h y → is_some o ≡ false → edge_below y ss ≡ None → y + h ≤ S → Empty y → None ≡ least_place S ss w h
  rows_end y o i t e l f = sym (first_none (in_row S ss w h) (S + 1) 0 (λ k _ _. ⊎_elim (λ v. f k v) (λ v. row_below y k (sym i ∙ none_is o t) l v (λ j r q m. let p = edge_none y ss j r e q in absurd (omega arith))) (cases_lt k y)))

  pub rows_found : (y : ℕ) (o : Option (ℕ × ℕ)) → o ≡ in_row S ss w h y → is_some o ≡ true → y + h ≤ S → Empty y → o ≡ least_place S ss w h
  rows_found y None e t l f = cc
  rows_found y (Some p) e t l f = sym (first_is (in_row S ss w h) (S + 1) 0 y p (omega arith) (omega arith) (λ j _ u. f j u) (sym e))

  pub rows_none : (y : ℕ) → S < y + h → Empty y → None ≡ least_place S ss w h
  rows_none y u f = sym (first_none (in_row S ss w h) (S + 1) 0 (λ k _ _. ⊎_elim (λ v. f k v) (λ v. row_nowhere k (λ x. too_low x k (omega arith))) (cases_lt k y)))

  -- what the first free place of all is
  pub record First (x y : ℕ) : Type 0 where
    pub free : free_at S ss w h y x ≡ true
    pub above : (a b : ℕ) → b < y → free_at S ss w h b a ≡ false
    pub left : (a : ℕ) → a < x → free_at S ss w h y a ≡ false

  pub place_first : (x y : ℕ) → least_place S ss w h ≡ Some (x, y) → First x y
  place_first x y e = rows (first_found (in_row S ss w h) (S + 1) 0 (x, y) e)
    where
      row : (b : ℕ) → Found (in_row S ss w h) (S + 1) 0 (x, y) → Found (place_at S ss w h b) (S + 1) 0 (x, y) → ((j : ℕ) → j < b → in_row S ss w h j ≡ None) → First x y
      row b F G f =
          ⊎_elim
          (λ t. let i : ◌≡◌ {A = ℕ × ℕ} (G.at, b) (x, y) = cc (place_some G.at b t, G.gives) in
          let p : G.at ≡ x = ap (λ z. z.0) i in
          let q : b ≡ y = ap (λ z. z.1) i in
          record {
            free = ap (λ k. free_at S ss w h k x) (sym q) ∙ (ap (free_at S ss w h b) (sym p) ∙ t);
            above = λ a c u. none_in_row c (f c (omega arith)) a;
            left = λ a u. ap (λ k. free_at S ss w h k a) (sym q) ∙ none_placed a b (G.before a (omega arith) (omega arith));
          })
          (λ t. absurd (none-some (x, y) (sym (place_none G.at b t) ∙ G.gives)))
          (cases_Bool (free_at S ss w h b G.at))

      rows : Found (in_row S ss w h) (S + 1) 0 (x, y) → First x y
      rows F = row F.at F (first_found (place_at S ss w h F.at) (S + 1) 0 (x, y) F.gives) (λ j u. F.before j (omega arith) u)

  pub nowhere : least_place S ss w h ≡ None → (x y : ℕ) → free_at S ss w h y x ≡ false
  nowhere e x y = ⊎_elim (λ v. none_in_row y (none_first (in_row S ss w h) (S + 1) 0 e y (omega arith) (omega arith)) x) (λ v. too_low x y (omega arith)) (cases_lt y (S + 1))
