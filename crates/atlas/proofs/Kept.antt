-- For users of an atlas of any kind: what is live after a call.
use Rattle.std.proofs.Common.{◌≡◌, ℕ, eqb, Some, None, sym, refl, ap, ◌∙◌, ⊎_elim}
use Rattle.std.proofs.lemmas.Bool.{cases_eq, cond-true, cond-false, eq-eqb, ne_eqb}
use Rattle.std.proofs.lemmas.Option.{none-some}
use Rattle.atlas.specs.declared.rect.Rect.{Rect}
use Rattle.atlas.specs.Rects.{rect}
use Rattle.atlas.specs.Kind.{AtlasKind, AtlasLaws}

module _ (K : AtlasKind) (L : AtlasLaws K) (s : K.carrier) (v : K.sound s) where
  -- the new rectangle is live under the fresh handle
  pub new_live : (w h x y : ℕ) → K.gives s w h ≡ Some (x, y) → K.live (K.placed s w h) (K.fresh s) ≡ Some (rect x y w h)
  new_live w h x y e = L.adds s w h x y (K.fresh s) v e ∙ cond-true (eqb (K.fresh s) (K.fresh s)) (Some (rect x y w h)) (K.live s (K.fresh s)) (eq-eqb (K.fresh s) (K.fresh s) refl)

  -- every other stays
  pub still_live : (w h x y i : ℕ) (r : Rect) → K.gives s w h ≡ Some (x, y) → K.live s i ≡ Some r → K.live (K.placed s w h) i ≡ Some r
  still_live w h x y i r e q =
      ⊎_elim
      (λ t. absurd (none-some r (sym (L.unused s w h x y v e) ∙ (ap (K.live s) (sym t) ∙ q))))
      (λ t. L.adds s w h x y i v e ∙ cond-false (eqb i (K.fresh s)) (Some (rect x y w h)) (K.live s i) (ne_eqb i (K.fresh s) t) ∙ q)
      (cases_eq i (K.fresh s))

  -- freeing one leaves the others
  pub left_live : (i j : ℕ) (r : Rect) → (i ≡ j → ⊥) → K.live s i ≡ Some r → K.live (K.freed s j) i ≡ Some r
  left_live i j r ne q = L.removes s j i v ∙ cond-false (eqb i j) None (K.live s i) (ne_eqb i j ne) ∙ q
