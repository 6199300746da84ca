-- Where the walk over the stops ends, for a u before, at, between and past their offsets.
-- A stop at e of colour c and those after it are counted from 0.
use Rattle.std.proofs.Common.{◌≡◌, ℕ, zero, suc, ◌<◌, ◌≤◌, Bool, true, false, cond, not, T, ◌⊎◌, List, [], ◌∷◌, map, length, get_or, refl, ap, ◌∙◌, subst, inl, inr, arith}
use lib.Dec.{not_T}
use lib.Ieee.{Float, nan, lt, le, eq, is_nan}
use lib.Ieee.Bits.{is_true, is_false}
use Rattle.std.proofs.lemmas.Bool.{cond-true, cond-false, cond_both}
use Rattle.std.proofs.lemmas.List.FromFn.{length-map-range_with_len, get_or-map-range_with_len}
use Rattle.draw.specs.declared.color.Color.{Color}
use Rattle.draw.specs.declared.color.ColorStop.{ColorStop}
use Rattle.draw.specs.Color.{color_word}
use Rattle.draw.specs.Ramp.{between, raised, last_shared, walk, transparent, color_at, place, sample_of}
use Rattle.draw.specs.Laws.{Numbers, effective_from, effective_of, color_of, NoneAfter, BeforeFirst, AtFirst, PastLast, Shared, Inside, Row}
use Rattle.std.proofs.lemmas.Float.{le_refl, le_of_lt, le_of_eq, le_right, le_trans, lt_of_le_of_lt}
use Rattle.draw.proofs.Order.{ge_of_eq, not_both, le_total, eq_of_le}
use Rattle.draw.proofs.Effective.{raised_past, raised_number, following}

decide : (b : Bool) → T b ⊎ (T b → ⊥)
decide true = inl tt
decide false = inr (λ h. h)

holds : {X : Type 0} (b : Bool) (x y : X) → T b → cond b x y ≡ x
holds b x y h = cond-true b x y (is_true b h)

fails : {X : Type 0} (b : Bool) (x y : X) → (T b → ⊥) → cond b x y ≡ y
fails b x y h = cond-false b x y (is_false b (not_T b h))

abbrev offsets : Float → List ColorStop → List Float
offsets e ss = e ∷ effective_from e ss

abbrev colors : Color → List ColorStop → List Color
colors c ss = c ∷ map (λ s. s.color) ss

-- no stop after j is at u
abbrev Clear : Float → Float → List ColorStop → ℕ → Type 0
Clear u e ss j = (m : ℕ) → j < m → m ≤ length ss → T (eq (get_or (offsets e ss) m nan) u) → ⊥

clear_on : (u e : Float) (s : ColorStop) (ss : List ColorStop) (j : ℕ) → Clear u e (s ∷ ss) (suc j) → Clear u (raised e s.offset) ss j
clear_on u e s ss j f m h l = f (suc m) (omega arith) (omega arith)

from_first : (e : Float) (ss : List ColorStop) (j : ℕ) → T (not (is_nan e)) → Numbers ss → j ≤ length ss → T (le e (get_or (offsets e ss) j nan))
from_first e ss zero p n h = le_refl e p
from_first e ss (suc j) p n h = following e ss j p n (omega arith)

-- ---- the stops at u

none_shared : (u e : Float) (c : Color) (ss : List ColorStop) → (0 < length ss → T (eq (get_or (effective_from e ss) 0 nan) u) → ⊥) → last_shared u e ss c ≡ c
none_shared u e c [] f = refl
none_shared u e c (s ∷ ss) f = fails (eq (raised e s.offset) u) _ c (f (omega arith))

shared_last : (u e : Float) (c : Color) (ss : List ColorStop) (j : ℕ) → T (not (is_nan e)) → Numbers ss → j ≤ length ss
    → T (eq e u) → T (eq (get_or (offsets e ss) j nan) u) → Clear u e ss j → last_shared u e ss c ≡ get_or (colors c ss) j transparent
shared_last u e c ss zero p n h q r f = none_shared u e c ss (λ l. f 1 (omega arith) (omega arith))
shared_last u e c [] (suc j) p n h q r f = absurd (omega arith)
shared_last u e c (s ∷ ss) (suc j) p n h q r f =
    let o = raised e s.offset in
    let x = get_or (offsets o ss) j nan in
    let y = raised_number e s.offset p n.0 in
    let k : T (eq o u) = eq_of_le o u (le_trans o x u (from_first o ss j y n.1 (omega arith)) (le_of_eq x u r)) (le_trans u e o (ge_of_eq e u q) (raised_past e s.offset p n.0)) in
    holds (eq o u) _ c k ∙ shared_last u o s.color ss j y n.1 (omega arith) k r (clear_on u e s ss j f)

-- the walk ends at the next stop, which is at u too
walk_stops : (u e : Float) (c : Color) (s : ColorStop) (ss : List ColorStop) (j : ℕ) → T (not (is_nan e)) → Numbers (s ∷ ss) → j < length ss
    → (T (lt (raised e s.offset) u) → ⊥) → T (eq (get_or (effective_from (raised e s.offset) ss) j nan) u) → Clear u e (s ∷ ss) (suc (suc j))
    → walk u e c (s ∷ ss) ≡ get_or (map (λ s. s.color) ss) j transparent
walk_stops u e c s ss j p n l k r f =
    let o = raised e s.offset in
    let x = get_or (effective_from o ss) j nan in
    let y = raised_number e s.offset p n.0 in
    let g : T (le u o) = le_total o u y (le_right x u (le_of_eq x u r)) k in
    let t : T (eq o u) = eq_of_le o u (le_trans o x u (following o ss j y n.1 l) (le_of_eq x u r)) g in
    fails (lt o u) _ _ k ∙ shared_last u o _ ss (suc j) y n.1 (omega arith) t r (clear_on u e s ss (suc j) f)

walk_shared : (u e : Float) (c : Color) (ss : List ColorStop) (i j : ℕ) → T (not (is_nan e)) → Numbers ss → i < j → j < length ss
    → T (eq (get_or (effective_from e ss) i nan) u) → T (eq (get_or (effective_from e ss) j nan) u) → Clear u e ss (suc j)
    → walk u e c ss ≡ get_or (map (λ s. s.color) ss) j transparent
walk_shared u e c [] i j p n h l q r f = absurd (omega arith)
walk_shared u e c (s ∷ ss) i zero p n h l q r f = absurd (omega arith)
walk_shared u e c (s ∷ ss) zero (suc j) p n h l q r f =
    let o = raised e s.offset in
    walk_stops u e c s ss j p n (omega arith) (λ k. not_both o u k (ge_of_eq o u q)) r f
walk_shared u e c (s ∷ ss) (suc i) (suc j) p n h l q r f =
    let o = raised e s.offset in
    elim (decide (lt o u)) [
      | inl k ↦
          holds (lt o u) _ _ k
          ∙ walk_shared u o s.color ss i j (raised_number e s.offset p n.0) n.1 (omega arith) (omega arith) q r (clear_on u e s ss (suc j) f)
      | inr k ↦ walk_stops u e c s ss j p n (omega arith) k r f
    ]

-- ---- the stops below u

walk_past : (u e : Float) (c : Color) (ss : List ColorStop) → T (not (is_nan e)) → Numbers ss → T (lt (get_or (offsets e ss) (length ss) nan) u)
    → walk u e c ss ≡ get_or (colors c ss) (length ss) transparent
walk_past u e c [] p n h = refl
walk_past u e c (s ∷ ss) p n h =
    let o = raised e s.offset in
    let y = raised_number e s.offset p n.0 in
    let k : T (lt o u) = lt_of_le_of_lt o (get_or (offsets o ss) (length ss) nan) u (from_first o ss (length ss) y n.1 (omega arith)) h in
    holds (lt o u) _ _ k ∙ walk_past u o s.color ss y n.1 h

walk_inside : (u e : Float) (c : Color) (ss : List ColorStop) (j : ℕ) → T (not (is_nan e)) → Numbers ss → j < length ss
    → T (lt (get_or (offsets e ss) j nan) u) → T (le u (get_or (effective_from e ss) j nan)) → Clear u e ss (suc j)
    → walk u e c ss ≡ between u (get_or (offsets e ss) j nan) (get_or (colors c ss) j transparent) (get_or (effective_from e ss) j nan) (get_or (map (λ s. s.color) ss) j transparent)
walk_inside u e c [] j p n l q r f = absurd (omega arith)
walk_inside u e c (s ∷ ss) zero p n l q r f =
    let o = raised e s.offset in
    fails (lt o u) _ _ (λ k. not_both o u k r) ∙ none_shared u o _ ss (λ h. f 2 (omega arith) (omega arith))
walk_inside u e c (s ∷ ss) (suc j) p n l q r f =
    let o = raised e s.offset in
    let y = raised_number e s.offset p n.0 in
    let k : T (lt o u) = lt_of_le_of_lt o (get_or (offsets o ss) j nan) u (from_first o ss j y n.1 (omega arith)) q in
    holds (lt o u) _ _ k ∙ walk_inside u o s.color ss j y n.1 (omega arith) q r (clear_on u e s ss (suc j) f)

-- ---- the colour at u, by the stops

color_first : (u : Float) (s : ColorStop) (ss : List ColorStop) → T (le u s.offset) → (0 < length ss → T (eq (get_or (effective_from s.offset ss) 0 nan) u) → ⊥)
    → color_at u (s ∷ ss) ≡ s.color
color_first u s ss h f = holds (le u s.offset) _ _ h ∙ none_shared u s.offset s.color ss f

-- what follows an offset above u is not at u, NaN or not
raised_beyond : (u e : Float) (ss : List ColorStop) → T (lt u e) → 0 < length ss → T (eq (get_or (effective_from e ss) 0 nan) u) → ⊥
raised_beyond u e [] h l = absurd (omega arith)
raised_beyond u e (s ∷ ss) h l =
    cond_both (lt s.offset e) e s.offset (λ x. T (eq x u) → ⊥)
    (λ t q. not_both u e h (le_of_eq e u q))
    (λ t q. subst T t (lt_of_le_of_lt s.offset u e (le_of_eq s.offset u q) h))

color_past : (u : Float) (s : ColorStop) (ss : List ColorStop) → Numbers (s ∷ ss) → T (lt (get_or (offsets s.offset ss) (length ss) nan) u)
    → color_at u (s ∷ ss) ≡ get_or (colors s.color ss) (length ss) transparent
color_past u s ss n h =
    let o = s.offset in
    let k : T (lt o u) = lt_of_le_of_lt o (get_or (offsets o ss) (length ss) nan) u (from_first o ss (length ss) n.0 n.1 (omega arith)) h in
    fails (le u o) _ _ (not_both o u k) ∙ walk_past u o s.color ss n.0 n.1 h

color_inside : (u : Float) (s : ColorStop) (ss : List ColorStop) (j : ℕ) → Numbers (s ∷ ss) → j < length ss
    → T (lt (get_or (offsets s.offset ss) j nan) u) → T (le u (get_or (effective_from s.offset ss) j nan)) → Clear u s.offset ss (suc j)
    → color_at u (s ∷ ss) ≡ between u (effective_of (s ∷ ss) j) (color_of (s ∷ ss) j) (effective_of (s ∷ ss) (suc j)) (color_of (s ∷ ss) (suc j))
color_inside u s ss j n l q r f =
    let o = s.offset in
    let k : T (lt o u) = lt_of_le_of_lt o (get_or (offsets o ss) j nan) u (from_first o ss j n.0 n.1 (omega arith)) q in
    fails (le u o) _ _ (not_both o u k) ∙ walk_inside u o s.color ss j n.0 n.1 l q r f

color_shared : (u : Float) (s : ColorStop) (ss : List ColorStop) (i j : ℕ) → Numbers (s ∷ ss) → i ≤ j → j < length ss
    → T (eq (effective_of (s ∷ ss) i) u) → T (eq (effective_of (s ∷ ss) (suc j)) u) → Clear u s.offset ss (suc j)
    → color_at u (s ∷ ss) ≡ color_of (s ∷ ss) (suc j)
color_shared u s ss i j n h l q r f =
    let o = s.offset in
    let x = effective_of (s ∷ ss) (suc j) in
    elim (decide (le u o)) [
      | inl k ↦
          let t : T (eq o u) = eq_of_le o u (le_trans o x u (following o ss j n.0 n.1 l) (le_of_eq x u r)) k in
          holds (le u o) _ _ k ∙ shared_last u o s.color ss (suc j) n.0 n.1 (omega arith) t r f
      | inr k ↦ fails (le u o) _ _ k ∙ on i h q k
    ]
  where
    on : (i : ℕ) → i ≤ j → T (eq (effective_of (s ∷ ss) i) u) → (T (le u s.offset) → ⊥) → walk u s.offset s.color ss ≡ color_of (s ∷ ss) (suc j)
    on zero h q k = absurd (k (ge_of_eq s.offset u q))
    on (suc i) h q k = walk_shared u s.offset s.color ss i j n.0 n.1 (omega arith) l q r f

clear_of : (u : Float) (s : ColorStop) (ss : List ColorStop) (j : ℕ) → NoneAfter u (s ∷ ss) j → Clear u s.offset ss j
clear_of u s ss j f m h l = f m h (omega arith)

-- ---- the laws

pub before_first : BeforeFirst
before_first [] k h l = absurd (omega arith)
before_first (s ∷ ss) k h l = ap color_word (color_first (place k) s ss (le_of_lt (place k) s.offset l) (raised_beyond (place k) s.offset ss l))

pub at_first : AtFirst
at_first [] k h q f = absurd (omega arith)
at_first (s ∷ ss) k h q f = ap color_word (color_first (place k) s ss (ge_of_eq s.offset (place k) q) (λ l. f 1 (omega arith) (omega arith)))

pub past_last : PastLast
past_last [] j k n h l = absurd (omega arith)
past_last (s ∷ ss) j k n h l =
    let e : length ss ≡ j = omega arith in
    subst (λ j. T (lt (effective_of (s ∷ ss) j) (place k)) → sample_of (s ∷ ss) k ≡ color_word (color_of (s ∷ ss) j)) e
    (λ t. ap color_word (color_past (place k) s ss n t)) l

pub shared : Shared
shared [] i j k n h l q r f = absurd (omega arith)
shared (s ∷ ss) i zero k n h l q r f = absurd (omega arith)
shared (s ∷ ss) i (suc j) k n h l q r f =
    ap color_word (color_shared (place k) s ss i j n (omega arith) (omega arith) q r (clear_of (place k) s ss (suc j) f))

pub inside : Inside
inside [] i j k n e h q r f = absurd (omega arith)
inside (s ∷ ss) i zero k n e h q r f = absurd (omega arith)
inside (s ∷ ss) i (suc j) k n e h q r f =
    let b : j ≡ i = omega arith in
    subst
    (λ i. T (lt (effective_of (s ∷ ss) i) (place k))
    → sample_of (s ∷ ss) k ≡ color_word (between (place k) (effective_of (s ∷ ss) i) (color_of (s ∷ ss) i) (effective_of (s ∷ ss) (suc j)) (color_of (s ∷ ss) (suc j))))
    b
    (λ t. ap color_word (color_inside (place k) s ss j n (omega arith) t r (clear_of (place k) s ss (suc j) f)))
    q

pub row : Row
row ss = (length-map-range_with_len (sample_of ss) 0 512, λ k h. get_or-map-range_with_len (sample_of ss) 0 512 k k 0 h (omega arith))
