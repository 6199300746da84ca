-- What std lacks of the order of floats.
use Rattle.std.proofs.Common.{not, T, inl, inr}
use lib.Dec.{not_T}
use lib.Ieee.{Float, lt, le, eq, is_nan}
use Rattle.std.proofs.lemmas.Float.{lt_irrefl, le_of_eq, lt-or-eq, le_of_not-lt, lt_of_lt_of_le, eq_flip}

pub ge_of_eq : (x y : Float) → T (eq x y) → T (le y x)
ge_of_eq x y h = le_of_eq y x (eq_flip x y h)

pub not_both : (x y : Float) → T (lt x y) → T (le y x) → ⊥
not_both x y h k = lt_irrefl x (lt_of_lt_of_le x y x h k)

-- two numbers are ordered one way or the other
pub le_total : (x y : Float) → T (not (is_nan x)) → T (not (is_nan y)) → (T (lt x y) → ⊥) → T (le y x)
le_total x y p q h = le_of_not-lt x y p q (not_T (lt x y) h)

pub eq_of_le : (x y : Float) → T (le x y) → T (le y x) → T (eq x y)
eq_of_le x y h k = elim (lt-or-eq x y h) [ inl l ↦ absurd (not_both x y l k) | inr q ↦ q ]
