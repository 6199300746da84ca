-- The runs that patches name, over lists of patches one after the other.
use Rattle.std.proofs.Common.{◌≡◌, ℕ, ◌+◌, List, [], ◌∷◌, ◌++◌, map, subst, arith}
use Rattle.records.specs.Moved.{moved_patch}
use Rattle.records.specs.declared.patch.Patch.{Patch}
use Rattle.records.specs.declared.patch.Patch.TheVariants.{Ramp, GlyphRun as Run, Image}
use Rattle.encoding.specs.Shape.{Turns}

turns_moved : (w st n m k : ℕ) (qs : List Patch) → Turns m k qs → Turns (n + m) (n + k) (map (moved_patch w st n) qs)
unfolding Turns
turns_moved w st n m k [] h = omega arith
turns_moved w st n m k (Ramp o a b e ∷ qs) h = turns_moved w st n m k qs h
turns_moved w st n m k (Run i ∷ qs) h =
    let e : n + (k + 1) ≡ (n + k) + 1 = omega arith in
    (omega arith, subst (λ j. Turns (n + m) j (map (moved_patch w st n) qs)) e (turns_moved w st n m (k + 1) qs h.1))
turns_moved w st n m k (Image o id wd g ∷ qs) h = turns_moved w st n m k qs h

pub turns_append : (w st n m k : ℕ) (ps qs : List Patch) → Turns n k ps → Turns m 0 qs → Turns (n + m) k (ps ++ map (moved_patch w st n) qs)
unfolding Turns
turns_append w st n m k [] qs h l =
    let e : n + 0 ≡ k = omega arith in
    subst (λ j. Turns (n + m) j (map (moved_patch w st n) qs)) e (turns_moved w st n m 0 qs l)
turns_append w st n m k (Ramp o a b e ∷ ps) qs h l = turns_append w st n m k ps qs h l
turns_append w st n m k (Run i ∷ ps) qs h l = (h.0, turns_append w st n m (k + 1) ps qs h.1 l)
turns_append w st n m k (Image o id wd g ∷ ps) qs h l = turns_append w st n m k ps qs h l

-- one patch more
pub turns_more : (n m k : ℕ) (ps : List Patch) (p : Patch) → Turns n k ps → Turns m n (p ∷ []) → Turns m k (ps ++ p ∷ [])
unfolding Turns
turns_more n m k [] p h t = subst (λ j. Turns m j (p ∷ [])) (omega arith) t
turns_more n m k (Ramp o a b e ∷ ps) p h t = turns_more n m k ps p h t
turns_more n m k (Run i ∷ ps) p h t = (h.0, turns_more n m (k + 1) ps p h.1 t)
turns_more n m k (Image o id wd g ∷ ps) p h t = turns_more n m k ps p h t
