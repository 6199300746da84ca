-- Effective offsets: each is the largest offset so far.
use Rattle.std.proofs.Common.{◌≡◌, ℕ, zero, suc, ◌<◌, ◌≤◌, not, T, ◌⊎◌, List, [], ◌∷◌, length, get_or, sym, refl, ◌∙◌, subst, inl, inr, arith}
use lib.Ieee.{Float, nan, lt, le, is_nan}
use Rattle.std.proofs.lemmas.Bool.{cond_both}
use Rattle.draw.specs.declared.color.ColorStop.{ColorStop}
use Rattle.draw.specs.Ramp.{raised}
use Rattle.draw.specs.Laws.{Numbers, effective_from, offset_of, effective_of, Largest, NeverFall}
use Rattle.std.proofs.lemmas.Float.{le_refl, le_of_lt, le_right, le_trans}
use Rattle.draw.proofs.Order.{le_total}

raised_one : (e o : Float) → (raised e o ≡ e) ⊎ (raised e o ≡ o)
raised_one e o = cond_both (lt o e) e o (λ x. (x ≡ e) ⊎ (x ≡ o)) (λ t. inl refl) (λ f. inr refl)

module _ (e o : Float) (p : T (not (is_nan e))) (q : T (not (is_nan o))) where
  pub raised_past : T (le e (raised e o))
  raised_past = cond_both (lt o e) e o (λ x. T (le e x)) (λ t. le_refl e p) (λ f. le_total o e q p (subst T f))

  pub raised_own : T (le o (raised e o))
  raised_own = cond_both (lt o e) e o (λ x. T (le o x)) (λ t. le_of_lt o e (subst T (sym t) tt)) (λ f. le_refl o q)

  pub raised_number : T (not (is_nan (raised e o)))
  raised_number = le_right e (raised e o) raised_past

-- ---- stops that follow one at e

-- none has a smaller effective offset
pub following : (e : Float) (ss : List ColorStop) (j : ℕ) → T (not (is_nan e)) → Numbers ss → j < length ss → T (le e (get_or (effective_from e ss) j nan))
following e [] j p n h = absurd (omega arith)
following e (s ∷ ss) zero p n h = raised_past e s.offset p n.0
following e (s ∷ ss) (suc j) p n h =
    let o = raised e s.offset in
    le_trans e o (get_or (effective_from o ss) j nan) (raised_past e s.offset p n.0) (following o ss j (raised_number e s.offset p n.0) n.1 (omega arith))

above_all : (e : Float) (ss : List ColorStop) (i j : ℕ) → T (not (is_nan e)) → Numbers ss → i ≤ j → j < length ss → T (le (offset_of ss i) (get_or (effective_from e ss) j nan))
above_all e [] i j p n h l = absurd (omega arith)
above_all e (s ∷ ss) zero zero p n h l = raised_own e s.offset p n.0
above_all e (s ∷ ss) (suc i) zero p n h l = absurd (omega arith)
above_all e (s ∷ ss) zero (suc j) p n h l =
    let o = raised e s.offset in
    le_trans s.offset o (get_or (effective_from o ss) j nan) (raised_own e s.offset p n.0) (following o ss j (raised_number e s.offset p n.0) n.1 (omega arith))
above_all e (s ∷ ss) (suc i) (suc j) p n h l =
    above_all (raised e s.offset) ss i j (raised_number e s.offset p n.0) n.1 (omega arith) (omega arith)

abbrev One : Float → List ColorStop → ℕ → Type 0
One x ss j = (i : ℕ) × (i ≤ j) × (x ≡ offset_of ss i)

one_of : (e : Float) (ss : List ColorStop) (j : ℕ) → j < length ss → (get_or (effective_from e ss) j nan ≡ e) ⊎ One (get_or (effective_from e ss) j nan) ss j
one_of e [] j h = absurd (omega arith)
one_of e (s ∷ ss) zero h = elim (raised_one e s.offset) [ inl q ↦ inl q | inr q ↦ inr (0, omega arith, q) ]
one_of e (s ∷ ss) (suc j) h =
    elim (one_of (raised e s.offset) ss j (omega arith)) [
      | inl r ↦ elim (raised_one e s.offset) [ inl q ↦ inl (r ∙ q) | inr q ↦ inr (0, omega arith, r ∙ q) ]
      | inr r ↦ inr (suc r.0, omega (arith, r.1), r.2)
    ]

-- ---- all stops

pub largest : Largest
largest [] j n h = absurd (omega arith)
largest (s ∷ ss) zero n h = (first, (0, omega arith, refl))
  where
    first : (i : ℕ) → i ≤ 0 → T (le (offset_of (s ∷ ss) i) s.offset)
    first zero l = le_refl s.offset n.0
    first (suc i) l = absurd (omega arith)
largest (s ∷ ss) (suc j) n h =
    (later, elim (one_of s.offset ss j (omega arith)) [ inl q ↦ (0, omega arith, q) | inr r ↦ (suc r.0, omega (arith, r.1), r.2) ])
  where
    later : (i : ℕ) → i ≤ suc j → T (le (offset_of (s ∷ ss) i) (effective_of (s ∷ ss) (suc j)))
    later zero l = following s.offset ss j n.0 n.1 (omega arith)
    later (suc i) l = above_all s.offset ss i j n.0 n.1 (omega arith) (omega arith)

pub never_fall : NeverFall
never_fall ss i j n h l =
    let r = (largest ss i n (omega arith)).1 in
    subst (λ x. T (le x (effective_of ss j))) (sym r.2) ((largest ss j n l).0 r.0 (omega (arith, r.1)))
