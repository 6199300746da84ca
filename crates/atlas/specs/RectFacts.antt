-- When two rectangles share a point.
use Rattle.std.specs.Prelude.{◌≡◌, ◌+◌, ◌<◌, true, false}
use Rattle.std.proofs.Common.{inl, inr, ⊎_elim, arith}
use Rattle.std.proofs.lemmas.Bool.{cases_Bool, ltb-true, ltb-false, lt-ltb, and_cases, and_parts, and_from}
use Rattle.atlas.specs.declared.rect.Rect.{Rect}
use Rattle.atlas.specs.Rects.{Apart, meets}

pub record Met (a b : Rect) : Type 0 where
  pub left : a.x < b.x + b.width
  pub right : b.x < a.x + a.width
  pub top : a.y < b.y + b.height
  pub bottom : b.y < a.y + a.height

module _ (a b : Rect) where
  pub met_parts : meets a b ≡ true → Met a b
  met_parts e =
      let p = and_parts _ _ e in
      let q = and_parts _ _ p.1 in
      let u = and_parts _ _ q.1 in
      record { left = ltb-true _ _ p.0; right = ltb-true _ _ q.0; top = ltb-true _ _ u.0; bottom = ltb-true _ _ u.1 }

  pub met_from : Met a b → meets a b ≡ true
  met_from m = and_from _ _ (lt-ltb _ _ m.left) (and_from _ _ (lt-ltb _ _ m.right) (and_from _ _ (lt-ltb _ _ m.top) (lt-ltb _ _ m.bottom)))

  pub missed : meets a b ≡ false → Apart a b
  missed e =
      ⊎_elim
      (λ f. inr (inl (ltb-false _ _ f)))
      (λ e2. ⊎_elim
      (λ f. inl (ltb-false _ _ f))
      (λ e3. ⊎_elim (λ f. inr (inr (inr (ltb-false _ _ f)))) (λ f. inr (inr (inl (ltb-false _ _ f)))) (and_cases _ _ e3))
      (and_cases _ _ e2))
      (and_cases _ _ e)

  pub apart_missed : Apart a b → meets a b ≡ false
  apart_missed p = ⊎_elim (λ t. absurd (never (met_parts t) p)) (λ t. t) (cases_Bool (meets a b))
    where
      never : Met a b → Apart a b → ⊥
      never m (inl u) = let k = m.right in omega arith
      never m (inr (inl u)) = let k = m.left in omega arith
      never m (inr (inr (inl u))) = let k = m.bottom in omega arith
      never m (inr (inr (inr u))) = let k = m.top in omega arith

  pub apart_sym : Apart a b → Apart b a
  apart_sym (inl u) = inr (inl u)
  apart_sym (inr (inl u)) = inl u
  apart_sym (inr (inr (inl u))) = inr (inr (inr u))
  apart_sym (inr (inr (inr u))) = inr (inr (inl u))
