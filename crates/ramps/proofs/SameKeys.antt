-- The test of two keys tells whether they are equal.
use Rattle.std.proofs.Common.{◌≡◌, ℕ, List, ap, refl}
use Rattle.std.specs.Bool.{Decides}
use Rattle.std.proofs.lemmas.Bool.Decides.{Decides-eqb, Decides-and, Decides-like}
use Rattle.std.proofs.lemmas.Slice.Eq.{slice_eq-Decides}
use Rattle.draw.specs.declared.color.StopBits.{StopBits}
use Rattle.ramps.specs.Keys.{same_stop, same_key}

stop : ℕ → ℕ → ℕ → ℕ → ℕ → StopBits
stop o r g b a = record { offset = o; r = r; g = g; b = b; a = a }

pub stop_decides : (s t : StopBits) → Decides (same_stop s t) (s ≡ t)
unfolding stop
stop_decides s t =
    Decides-like _
    (λ p. let z : stop s.offset s.r s.g s.b s.a ≡ stop t.offset t.r t.g t.b t.a = rw (p.0, p.1.0, p.1.1.0, p.1.1.1.0, p.1.1.1.1) in z)
    (λ e. (ap (λ x. x.offset) e, (ap (λ x. x.r) e, (ap (λ x. x.g) e, (ap (λ x. x.b) e, ap (λ x. x.a) e)))))
    (Decides-and _ _ (Decides-eqb _ _) (Decides-and _ _ (Decides-eqb _ _) (Decides-and _ _ (Decides-eqb _ _) (Decides-and _ _ (Decides-eqb _ _) (Decides-eqb _ _)))))

pub key_decides : (a b : List StopBits) → Decides (same_key a b) (a ≡ b)
key_decides a b = slice_eq-Decides stop_decides a b (same_key a b) refl
