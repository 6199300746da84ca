-- Shelves: which picture stands on which, which shelves stay, and where a picture goes.
use Rattle.std.specs.Prelude.{◌≡◌, ℕ, zero, suc, ◌+◌, ◌-◌, ◌<◌, ◌≤◌, max, true, cond, ◌&&◌, ◌⊎◌, List, [], ◌∷◌, ◌++◌, length, take, Some, None, Option, ◌==◌, ◌≢◌, nat_le, slice_set, fold, refl}
use Rattle.std.proofs.Common.{sym, ap, subst, ◌∙◌, inl, inr, ⊎_elim, arith, length-append}
use Rattle.std.proofs.lemmas.List.Sums.{sum_by-cons, sum_by_push}
use Rattle.std.proofs.lemmas.Bool.{cases_eq, cond-true, cond-false, eq-eqb, ne_eqb, eqb-true, leb-true, le-leb, and_parts, and_from, or_cases, or_left, or_right, false≢true}
use Rattle.std.proofs.lemmas.Option.{none-some, cond_some}
use Rattle.atlas.specs.declared.rect.Rect.{Rect}
use Rattle.atlas.specs.Rects.{rect, Apart}
use Rattle.atlas.specs.Slots.{Slots, slot}
use Rattle.std.specs.Option.{option_or}
use Rattle.atlas.specs.Shelf.{depth, reach, furthest, on_shelf, chosen, onto, standing, stands, slot_stands, all_stand, all_tall}
use Rattle.atlas.specs.Searches.{none_unless}
use Rattle.atlas.specs.SlotFacts.{slot_after}

-- the furthest picture of a shelf
pub furthest_covers : (y : ℕ) (ss : Slots) (i : ℕ) (r : Rect) → slot ss i ≡ Some r → r.y ≡ y → r.x + r.width ≤ furthest y ss
furthest_covers y [] i r e q = absurd (none-some r e)
furthest_covers y (s ∷ ss) zero r e q = let p = ap (reach y) e ∙ cond-true (r.y == y) (r.x + r.width) 0 (eq-eqb _ _ q) in omega arith
furthest_covers y (s ∷ ss) (suc i) r e q = let p = furthest_covers y ss i r e q in omega arith

pub furthest_bare : (y : ℕ) (ss : Slots) → ((i : ℕ) (r : Rect) → slot ss i ≡ Some r → r.y ≢ y) → furthest y ss ≡ 0
furthest_bare y [] f = refl
furthest_bare y (None ∷ ss) f = let p = furthest_bare y ss (λ i r e. f (suc i) r e) in omega arith
furthest_bare y (Some r ∷ ss) f =
    let p = furthest_bare y ss (λ i r e. f (suc i) r e) in
    let q = cond-false (r.y == y) (r.x + r.width) 0 (ne_eqb r.y y (f 0 r refl)) in
    omega arith

pub furthest_more : (y : ℕ) (ss : Slots) (v : ℕ) (o : Option Rect) → slot ss v ≡ None → furthest y ss ≤ furthest y (slice_set ss v o)
furthest_more y [] v o e = omega arith
furthest_more y (s ∷ ss) zero o e = let p = ap (reach y) e in omega arith
furthest_more y (s ∷ ss) (suc v) o e = let p = furthest_more y ss v o e in omega arith

-- the same by a pass that keeps the furthest so far
furthest_from : (y a : ℕ) (ss : Slots) → fold (λ n o. max n (reach y o)) a ss ≡ max a (furthest y ss)
furthest_from y a [] = omega arith
furthest_from y a (s ∷ ss) = let p = furthest_from y (max a (reach y s)) ss in omega arith

pub furthest_fold : (y : ℕ) (ss : Slots) → fold (λ n o. max n (reach y o)) 0 ss ≡ furthest y ss
furthest_fold y ss = let p = furthest_from y 0 ss in omega arith

-- the first shelf's height, and the depth of the others
pub depth-cons : (t : ℕ) (ts : List ℕ) → depth (t ∷ ts) ≡ t + depth ts
depth-cons t ts = sum_by-cons (λ x. x) t ts

-- which picture stands on a shelf
pub stands_below : (y : ℕ) (ts : List ℕ) (r : Rect) → stands y ts r ≡ true → y ≤ r.y
stands_below y [] r e = absurd (false≢true e)
stands_below y (t ∷ ts) r e =
    ⊎_elim
    (λ p. let q = eqb-true r.y y (and_parts (r.y == y) (nat_le r.height t) p).0 in omega arith)
    (λ p. let q = stands_below (y + t) ts r p in omega arith)
    (or_cases _ _ e)

pub stands_more : (y : ℕ) (ts us : List ℕ) (r : Rect) → stands y ts r ≡ true → stands y (ts ++ us) r ≡ true
stands_more y [] us r e = absurd (false≢true e)
stands_more y (t ∷ ts) us r e =
    ⊎_elim
    (λ p. or_left _ _ p)
    (λ p. or_right (r.y == y && nat_le r.height t) _ (stands_more (y + t) ts us r p))
    (or_cases _ _ e)

pub stands_last : (y : ℕ) (ts : List ℕ) (r : Rect) → r.y ≡ y + depth ts → stands y (ts ++ r.height ∷ []) r ≡ true
stands_last y [] r e = or_left _ _ (and_from _ _ (eq-eqb r.y y (omega arith)) (le-leb r.height r.height (omega arith)))
stands_last y (u ∷ ts) r e = or_right (r.y == y && nat_le r.height u) _ (stands_last (y + u) ts r (omega (arith, depth-cons u ts)))

-- every live picture has a width, and stands on a shelf
pub record Stands (ts : List ℕ) (r : Rect) : Type 0 where
  pub wide : 1 ≤ r.width
  pub on : stands 0 ts r ≡ true

pub stand_at : (ts : List ℕ) (ss : Slots) (i : ℕ) (r : Rect) → all_stand ts ss ≡ true → slot ss i ≡ Some r → Stands ts r
stand_at ts [] i r a e = absurd (none-some r e)
stand_at ts (s ∷ ss) zero r a e =
    let p = ap (slot_stands ts) (sym e) ∙ (and_parts (slot_stands ts s) (all_stand ts ss) a).0 in
    let q = and_parts (nat_le 1 r.width) (stands 0 ts r) p in
    record { wide = leb-true _ _ q.0; on = q.1 }
stand_at ts (s ∷ ss) (suc i) r a e = stand_at ts ss i r (and_parts (slot_stands ts s) (all_stand ts ss) a).1 e

pub stand_from : (ts : List ℕ) (ss : Slots) → ((i : ℕ) (r : Rect) → slot ss i ≡ Some r → Stands ts r) → all_stand ts ss ≡ true
stand_from ts [] f = refl
stand_from ts (None ∷ ss) f = stand_from ts ss (λ i r e. f (suc i) r e)
stand_from ts (Some t ∷ ss) f = let p = f 0 t refl in and_from _ _ (and_from _ _ (le-leb _ _ p.wide) p.on) (stand_from ts ss (λ i r e. f (suc i) r e))

pub stand_set : (ts : List ℕ) (ss : Slots) (v : ℕ) (n : Rect) → v < length ss → Stands ts n → ((i : ℕ) (r : Rect) → slot ss i ≡ Some r → Stands ts r) → all_stand ts (slice_set ss v (Some n)) ≡ true
stand_set ts ss v n l o f = stand_from ts (slice_set ss v (Some n)) (λ i r e. ⊎_elim (λ c. subst (Stands ts) c.1 o) (λ c. f i r c.1) (slot_after ss v n i r l e))

-- heights
pub tall_push : (ts : List ℕ) (t : ℕ) → all_tall ts ≡ true → 1 ≤ t → all_tall (ts ++ t ∷ []) ≡ true
tall_push [] t e h = and_from _ _ (le-leb _ _ h) refl
tall_push (u ∷ ts) t e h = let p = and_parts (nat_le 1 u) (all_tall ts) e in and_from _ _ p.0 (tall_push ts t p.1 h)

pub tall_take : (k : ℕ) (ts : List ℕ) → all_tall ts ≡ true → all_tall (take k ts) ≡ true
tall_take zero ts e = refl
tall_take (suc k) [] e = refl
tall_take (suc k) (t ∷ ts) e = let p = and_parts (nat_le 1 t) (all_tall ts) e in and_from _ _ p.0 (tall_take k ts p.1)

pub tall_few : (ts : List ℕ) → all_tall ts ≡ true → length ts ≤ depth ts
tall_few [] e = omega arith
tall_few (t ∷ ts) e = let p = and_parts (nat_le 1 t) (all_tall ts) e in let q = leb-true 1 t p.0 in let r = tall_few ts p.1 in omega (arith, depth-cons t ts)

-- which shelves stay
onto_cases : (f n : ℕ) → ((n ≡ 0) × (f ≡ 0) × (onto f n ≡ 0)) ⊎ ((onto f n ≡ suc n) × (1 ≤ n + f))
onto_cases f n =
    ⊎_elim
    (λ a. let e = cond-true (n == 0) (cond (f == 0) 0 1) (1 + n) (eq-eqb n 0 a) in ⊎_elim
    (λ b. inl (a, b, e ∙ cond-true (f == 0) 0 1 (eq-eqb f 0 b)))
    (λ b. let q = e ∙ cond-false (f == 0) 0 1 (ne_eqb f 0 b) in inr (omega arith, omega arith))
    (cases_eq f 0))
    (λ a. let e = cond-false (n == 0) (cond (f == 0) 0 1) (1 + n) (ne_eqb n 0 a) in inr (omega arith, omega arith))
    (cases_eq n 0)

module _ (ss : Slots) where
  at_same : (a b : ℕ) → a ≡ b → furthest a ss ≡ furthest b ss
  at_same a b e = ap (λ y. furthest y ss) e

  pub standing_few : (y : ℕ) (ts : List ℕ) → standing ss y ts ≤ length ts
  standing_few y [] = omega arith
  standing_few y (t ∷ ts) = let p = standing_few (y + t) ts in ⊎_elim (λ c. let q = c.2 in omega arith) (λ c. let q = c.0 in omega arith) (onto_cases (furthest y ss) (standing ss (y + t) ts))

  pub standing_take : (y : ℕ) (ts : List ℕ) → standing ss y (take (standing ss y ts) ts) ≡ standing ss y ts
  standing_take y [] = refl
  standing_take y (t ∷ ts) =
      ⊎_elim
      (λ c. ap (λ k. standing ss y (take k (t ∷ ts))) c.2 ∙ sym c.2)
      (λ c. ap (λ k. standing ss y (take k (t ∷ ts))) c.0 ∙ ap (onto (furthest y ss)) (standing_take (y + t) ts))
      (onto_cases (furthest y ss) (standing ss (y + t) ts))

  -- one more shelf at the end stands if it is not empty, and else is of no account
  pub standing_last : (y : ℕ) (ts : List ℕ) (t : ℕ) → 1 ≤ furthest (y + depth ts) ss → standing ss y (ts ++ t ∷ []) ≡ suc (length ts)
  standing_last y [] t h =
      let p = at_same (y + 0) y (omega arith) in
      ⊎_elim (λ c. absurd (let q = c.1 in omega arith)) (λ c. c.0) (onto_cases (furthest y ss) 0)
  standing_last y (u ∷ ts) t h =
      let p = at_same (y + depth (u ∷ ts)) ((y + u) + depth ts) (omega (arith, depth-cons u ts)) in
      let q = standing_last (y + u) ts t (omega arith) in
      ⊎_elim (λ c. absurd (let k = c.0 in omega arith)) (λ c. c.0 ∙ ap suc q) (onto_cases (furthest y ss) (standing ss (y + u) (ts ++ t ∷ [])))

  pub standing_less : (y : ℕ) (ts : List ℕ) (t : ℕ) → furthest (y + depth ts) ss ≡ 0 → standing ss y (ts ++ t ∷ []) ≡ standing ss y ts
  standing_less y [] t h =
      let p = at_same (y + 0) y (omega arith) in
      ⊎_elim (λ c. c.2) (λ c. absurd (let q = c.1 in omega arith)) (onto_cases (furthest y ss) 0)
  standing_less y (u ∷ ts) t h =
      let p = at_same (y + depth (u ∷ ts)) ((y + u) + depth ts) (omega (arith, depth-cons u ts)) in
      ap (onto (furthest y ss)) (standing_less (y + u) ts t (omega arith))

  -- the shelves past those that stand are empty, and the last that stands is not
  pub standing_gone : (y : ℕ) (ts : List ℕ) (k : ℕ) → standing ss y ts ≤ k → k < length ts → furthest (y + depth (take k ts)) ss ≡ 0
  standing_gone y [] k a b = absurd (omega arith)
  standing_gone y (t ∷ ts) zero a b =
      let p = at_same (y + 0) y (omega arith) in
      ⊎_elim (λ c. let q = c.1 in omega arith) (λ c. absurd (let q = c.0 in omega arith)) (onto_cases (furthest y ss) (standing ss (y + t) ts))
  standing_gone y (t ∷ ts) (suc k) a b =
      let p = at_same (y + depth (t ∷ take k ts)) ((y + t) + depth (take k ts)) (omega (arith, depth-cons t (take k ts))) in
      let l : standing ss (y + t) ts ≤ k = ⊎_elim (λ c. let q = c.0 in omega arith) (λ c. let q = c.0 in omega arith) (onto_cases (furthest y ss) (standing ss (y + t) ts)) in
      p ∙ standing_gone (y + t) ts k l (omega arith)

  pub standing_end : (y : ℕ) (ts : List ℕ) (k : ℕ) → standing ss y ts ≡ suc k → 1 ≤ furthest (y + depth (take k ts)) ss
  standing_end y [] k e = absurd (omega arith)
  standing_end y (t ∷ ts) zero e =
      let p = at_same (y + 0) y (omega arith) in
      ⊎_elim (λ c. absurd (let q = c.2 in omega arith)) (λ c. let q = c.0 in let r = c.1 in omega arith) (onto_cases (furthest y ss) (standing ss (y + t) ts))
  standing_end y (t ∷ ts) (suc k) e =
      let p = at_same (y + depth (t ∷ take k ts)) ((y + t) + depth (take k ts)) (omega (arith, depth-cons t (take k ts))) in
      let l : standing ss (y + t) ts ≡ suc k = ⊎_elim (λ c. absurd (let q = c.2 in omega arith)) (λ c. let q = c.0 in omega arith) (onto_cases (furthest y ss) (standing ss (y + t) ts)) in
      let q = standing_end (y + t) ts k l in
      omega arith

  pub standing_none : (y : ℕ) (ts : List ℕ) → ((k : ℕ) → furthest k ss ≡ 0) → standing ss y ts ≡ 0
  standing_none y [] f = refl
  standing_none y (t ∷ ts) f = let p = standing_none (y + t) ts f in let q = f y in ⊎_elim (λ c. c.2) (λ c. absurd (let k = c.1 in omega arith)) (onto_cases (furthest y ss) (standing ss (y + t) ts))

  -- a live picture's shelf stays
  pub stands_still : (y : ℕ) (ts : List ℕ) (i : ℕ) (r : Rect) → slot ss i ≡ Some r → 1 ≤ r.width → stands y ts r ≡ true → stands y (take (standing ss y ts) ts) r ≡ true
  stands_still y [] i r e w o = absurd (false≢true o)
  stands_still y (t ∷ ts) i r e w o =
      let n = standing ss (y + t) ts in
      ⊎_elim
      (λ p. let q = furthest_covers y ss i r e (eqb-true r.y y (and_parts (r.y == y) (nat_le r.height t) p).0) in
      ⊎_elim
      (λ c. absurd (let k = c.1 in omega arith))
      (λ c. ap (λ k. stands y (take k (t ∷ ts)) r) c.0 ∙ or_left _ _ p)
      (onto_cases (furthest y ss) n))
      (λ p. let q = stands_still (y + t) ts i r e w p in
      ⊎_elim
      (λ c. absurd (false≢true (sym (ap (λ k. stands (y + t) (take k ts) r) c.0) ∙ q)))
      (λ c. ap (λ k. stands y (take k (t ∷ ts)) r) c.0 ∙ or_right (r.y == y && nat_le r.height t) _ q)
      (onto_cases (furthest y ss) n))
      (or_cases _ _ o)

pub standing_more : (ss us : Slots) (y : ℕ) (ts : List ℕ) → ((k : ℕ) → furthest k ss ≤ furthest k us) → standing ss y ts ≡ length ts → standing us y ts ≡ length ts
standing_more ss us y [] f e = refl
standing_more ss us y (t ∷ ts) f e =
    ⊎_elim
    (λ c. absurd (let k = c.2 in omega arith))
    (λ c. let k = c.0 in let l = c.1 in let g = f y in
    let p = standing_more ss us (y + t) ts f (omega arith) in
    ⊎_elim (λ d. absurd (let x = d.0 in let z = d.1 in omega arith)) (λ d. d.0 ∙ ap suc p) (onto_cases (furthest y us) (standing us (y + t) ts)))
    (onto_cases (furthest y ss) (standing ss (y + t) ts))

-- the code's walk up from the last shelf
module _ (ss : Slots) (ts us : List ℕ) (t : ℕ) (e : ts ≡ us ++ t ∷ []) where
  -- its top, n - t, is where those above it end
  module _ (n f : ℕ) (deep : n ≡ depth ts) where
    pub last_top : n - t ≡ depth us
    last_top = let d = ap depth e ∙ sum_by_push (λ x. x) us t in omega arith

    pub last_stands : f ≡ furthest (n - t) ss → 1 ≤ f → standing ss 0 ts ≡ length ts
    last_stands far l =
        let p = at_same ss (0 + depth us) (n - t) (omega (arith, last_top)) in
        ap (standing ss 0) e ∙ (standing_last ss 0 us t (omega arith) ∙ sym (ap length e ∙ length-append us (t ∷ []) ∙ omega arith))

    pub last_goes : f ≡ furthest (n - t) ss → f ≡ 0 → standing ss 0 ts ≡ standing ss 0 us
    last_goes far z =
        let p = at_same ss (0 + depth us) (n - t) (omega (arith, last_top)) in
        ap (standing ss 0) e ∙ standing_less ss 0 us t (omega arith)

-- a place that depends on two fits
module _ (a b c d : ℕ) (p : ℕ × ℕ) where
  abbrev given : Option (ℕ × ℕ)
  given = cond (nat_le a b && nat_le c d) (Some p) None

  pub fit_some : a ≤ b → c ≤ d → given ≡ Some p
  fit_some l m = cond-true {A = Option (ℕ × ℕ)} (nat_le a b && nat_le c d) (Some p) None (and_from _ _ (le-leb _ _ l) (le-leb _ _ m))

  pub fit_parts : (q : ℕ × ℕ) → given ≡ Some q → (a ≤ b) × (c ≤ d) × (p ≡ q)
  fit_parts q e =
      let t = cond_some (nat_le a b && nat_le c d) p q e in
      let u = and_parts (nat_le a b) (nat_le c d) t.0 in
      (leb-true _ _ u.0, leb-true _ _ u.1, t.1)

  pub fit_none : (a ≤ b → c ≤ d → ⊥) → given ≡ None
  fit_none f = none_unless given (λ q e. let u = fit_parts q e in f u.0 u.1)

-- where a picture goes
module _ (S : ℕ) (ss : Slots) (w h : ℕ) where
  pub record Goes (y : ℕ) (ts : List ℕ) (a b : ℕ) : Type 0 where
    pub right : a + w ≤ S
    pub spot : ((stands y ts (rect a b w h) ≡ true) × (b + h ≤ y + depth ts)) ⊎ ((b ≡ y + depth ts) × (b + h ≤ S))

  pub goes : (y : ℕ) (ts : List ℕ) (a b : ℕ) → chosen S ss w h y ts ≡ Some (a, b) → Goes y ts a b
  goes y [] a b e =
      let p = fit_parts w S (y + h) S (0, y) (a, b) e in
      let j = ap (λ z. z.0) p.2 in let k = ap (λ z. z.1) p.2 in
      record { right = omega (arith, p.0); spot = inr (omega arith, omega (arith, p.1)) }
  goes y (t ∷ ts) a b e = look (on_shelf S ss w h y t) refl e (goes (y + t) ts a b)
    where
      look : (o : Option (ℕ × ℕ)) → on_shelf S ss w h y t ≡ o → option_or o (chosen S ss w h (y + t) ts) ≡ Some (a, b) → (chosen S ss w h (y + t) ts ≡ Some (a, b) → Goes (y + t) ts a b) → Goes y (t ∷ ts) a b
      look (Some q) f e rest =
          let p = fit_parts h t (furthest y ss + w) S (furthest y ss, y) (a, b) (f ∙ e) in
          let j = ap (λ z. z.0) p.2 in let k = ap (λ z. z.1) p.2 in
          record { right = omega (arith, p.1); spot = inl (or_left _ _ (and_from _ _ (eq-eqb b y (sym k)) (le-leb _ _ p.0)), omega (arith, p.0, depth-cons t ts)) }
      look None f e rest =
          let g = rest e in
          record { right = g.right; spot = ⊎_elim (λ c. inl (or_right (b == y && nat_le h t) _ c.0, let k = c.1 in omega (arith, depth-cons t ts))) (λ c. inr (let k = c.0 in omega (arith, depth-cons t ts), c.1)) g.spot }

  pub goes_clear : (y : ℕ) (ts : List ℕ) (a b i : ℕ) (r : Rect) → slot ss i ≡ Some r → (r.y + r.height ≤ y) ⊎ (stands y ts r ≡ true) → chosen S ss w h y ts ≡ Some (a, b) → Apart (rect a b w h) r
  goes_clear y [] a b i r s c e =
      let p = fit_parts w S (y + h) S (0, y) (a, b) e in
      let k = ap (λ z. z.1) p.2 in
      ⊎_elim (λ u. inr (inr (inr (omega arith)))) (λ u. absurd (false≢true u)) c
  goes_clear y (t ∷ ts) a b i r s c e = look (on_shelf S ss w h y t) refl e (goes_clear (y + t) ts a b i r s)
    where
      look : (o : Option (ℕ × ℕ)) → on_shelf S ss w h y t ≡ o → option_or o (chosen S ss w h (y + t) ts) ≡ Some (a, b) → ((r.y + r.height ≤ y + t) ⊎ (stands (y + t) ts r ≡ true) → chosen S ss w h (y + t) ts ≡ Some (a, b) → Apart (rect a b w h) r) → Apart (rect a b w h) r
      look (Some q) f e rest =
          let p = fit_parts h t (furthest y ss + w) S (furthest y ss, y) (a, b) (f ∙ e) in
          let j = ap (λ z. z.0) p.2 in let k = ap (λ z. z.1) p.2 in
          let u = p.0 in
          ⊎_elim
          (λ d. inr (inr (inr (omega arith))))
          (λ d. ⊎_elim
          (λ v. let g = furthest_covers y ss i r s (eqb-true r.y y (and_parts _ _ v).0) in inr (inl (omega arith)))
          (λ v. let g = stands_below (y + t) ts r v in inr (inr (inl (omega arith))))
          (or_cases _ _ d))
          c
      look None f e rest =
          rest (⊎_elim
          (λ d. inl (omega arith))
          (λ d. ⊎_elim
          (λ v. let g = eqb-true r.y y (and_parts _ _ v).0 in let l = leb-true r.height t (and_parts _ _ v).1 in inl (omega arith))
          (λ v. inr v)
          (or_cases _ _ d))
          c) e
