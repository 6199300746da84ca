-- Lists of patches, one after the other.
use Rattle.std.proofs.Common.{ℕ, zero, suc, ◌+◌, ◌<◌, ◌≤◌, List, [], ◌∷◌, ◌++◌, map, length, get_or, arith}
use mathlib.Core.Logic.{∥∥₁_elim}
use denote.Struct.Props.{props}
use Rattle.records.specs.Moved.{moved_patch, SmallPatch}
use Rattle.records.specs.declared.patch.Patch.{Patch}
use Rattle.records.specs.declared.patch.Patch.TheVariants.{Ramp, GlyphRun as Run, Image}
use Rattle.encoding.specs.Shape.{Lies, Turns}
use Rattle.encoding.specs.Scene.{Scene, Sound}

-- patches that may begin at f may begin before
lies_lower : (w s f g : ℕ) (ps : List Patch) → g ≤ f → Lies w s f ps → Lies w s g ps
unfolding Lies
lies_lower w s f g [] h l = omega arith
lies_lower w s f g (Ramp o a b e ∷ ps) h l = (omega arith, l.1, l.2, l.3, l.4)
lies_lower w s f g (Run i ∷ ps) h l = lies_lower w s f g ps h l
lies_lower w s f g (Image o id x y ∷ ps) h l = (omega arith, l.1, l.2, l.3, l.4, l.5)

lies_moved : (w s r w' s' f : ℕ) (ps : List Patch) → Lies w' s' f ps
    → Lies (w + w') (s + s') (f + w) (map (moved_patch w s r) ps)
unfolding Lies
lies_moved w s r w' s' f [] l = omega arith
lies_moved w s r w' s' f (Ramp o a b e ∷ ps) l = (
  omega arith,
  omega arith,
  omega arith,
  omega arith,
  lies_lower (w + w') (s + s') (o + 1 + w) (o + w + 1) (map (moved_patch w s r) ps) (omega arith) (lies_moved w s r w' s' (o + 1) ps l.4),
)
lies_moved w s r w' s' f (Run i ∷ ps) l = lies_moved w s r w' s' f ps l
lies_moved w s r w' s' f (Image o id x y ∷ ps) l = (
  omega arith,
  l.1,
  l.2,
  l.3,
  l.4,
  lies_lower (w + w') (s + s') (o + 2 + w) (o + w + 2) (map (moved_patch w s r) ps) (omega arith) (lies_moved w s r w' s' (o + 2) ps l.5),
)

pub lies_append : (w s r w' s' f : ℕ) (ps qs : List Patch) → Lies w s f ps → Lies w' s' 0 qs
    → Lies (w + w') (s + s') f (ps ++ map (moved_patch w s r) qs)
unfolding Lies
lies_append w s r w' s' f [] qs l m =
    lies_lower (w + w') (s + s') (0 + w) f (map (moved_patch w s r) qs) (omega arith) (lies_moved w s r w' s' 0 qs m)
lies_append w s r w' s' f (Ramp o a b e ∷ ps) qs l m =
    (l.0, l.1, l.2, omega arith, lies_append w s r w' s' (o + 1) ps qs l.4 m)
lies_append w s r w' s' f (Run i ∷ ps) qs l m = lies_append w s r w' s' f ps qs l m
lies_append w s r w' s' f (Image o id x y ∷ ps) qs l m =
    (l.0, l.1, l.2, l.3, l.4, lies_append w s r w' s' (o + 2) ps qs l.5 m)

-- where patches end, no later than the words
pub lies_from : (w s f : ℕ) (ps : List Patch) → Lies w s f ps → f ≤ w
unfolding Lies
lies_from w s f [] l = l
lies_from w s f (Ramp o a b e ∷ ps) l = let h = lies_from w s (o + 1) ps l.4 in omega arith
lies_from w s f (Run i ∷ ps) l = lies_from w s f ps l
lies_from w s f (Image o id x y ∷ ps) l = let h = lies_from w s (o + 2) ps l.5 in omega arith

-- patches that stand in a list stand in a longer one, and then one more may follow
pub lies_more : (w s w' s' f : ℕ) (ps : List Patch) (p : Patch) → w ≤ w' → s ≤ s' → Lies w s f ps → Lies w' s' w (p ∷ []) → Lies w' s' f (ps ++ p ∷ [])
unfolding Lies
lies_more w s w' s' f [] p h k l m = lies_lower w' s' w f (p ∷ []) l m
lies_more w s w' s' f (Ramp o a b e ∷ ps) p h k l m =
    (l.0, l.1, l.2, omega arith, lies_more w s w' s' (o + 1) ps p h k l.4 m)
lies_more w s w' s' f (Run i ∷ ps) p h k l m = lies_more w s w' s' f ps p h k l m
lies_more w s w' s' f (Image o id x y ∷ ps) p h k l m =
    (l.0, l.1, l.2, l.3, l.4, lies_more w s w' s' (o + 2) ps p h k l.5 m)

-- the same patches in longer lists
pub lies_wider : (w s w' s' f : ℕ) (ps : List Patch) → w ≤ w' → s ≤ s' → Lies w s f ps → Lies w' s' f ps
unfolding Lies
lies_wider w s w' s' f [] h k l = omega arith
lies_wider w s w' s' f (Ramp o a b e ∷ ps) h k l = (l.0, l.1, l.2, omega arith, lies_wider w s w' s' (o + 1) ps h k l.4)
lies_wider w s w' s' f (Run i ∷ ps) h k l = lies_wider w s w' s' f ps h k l
lies_wider w s w' s' f (Image o id x y ∷ ps) h k l = (l.0, l.1, l.2, l.3, l.4, lies_wider w s w' s' (o + 2) ps h k l.5)

small_prop : (p : Patch) → IsProp (SmallPatch p)
small_prop (Ramp o a b e) = hlevel props
small_prop (Run i) = hlevel props
small_prop (Image o id w h) = hlevel props

turns_end : (n k : ℕ) (ps : List Patch) → Turns n k ps → k ≤ n
unfolding Turns
turns_end n k [] h = omega arith
turns_end n k (Ramp o a b e ∷ ps) h = turns_end n k ps h
turns_end n k (Run i ∷ ps) h = let q = turns_end n (k + 1) ps h.1 in omega arith
turns_end n k (Image o id w g ∷ ps) h = turns_end n k ps h

small_at : (w s n f j : ℕ) (ps : List Patch) → w ≤ 1000000 → s ≤ 1000000 → n ≤ 1000000 → Lies w s f ps → Turns n j ps
    → (k : ℕ) (d : Patch) → k < length ps → SmallPatch (get_or ps k d)
unfolding Lies Turns
small_at w s n f j [] hw hs hn l t k d h = absurd (omega arith)
small_at w s n f j (Ramp o a b e ∷ ps) hw hs hn l t zero d h = let q = lies_from w s (o + 1) ps l.4 in (omega arith, omega arith, omega arith)
small_at w s n f j (Run i ∷ ps) hw hs hn l t zero d h = let q = turns_end n (j + 1) ps t.1 in omega arith
small_at w s n f j (Image o id x y ∷ ps) hw hs hn l t zero d h = let q = lies_from w s (o + 2) ps l.5 in omega arith
small_at w s n f j (Ramp o a b e ∷ ps) hw hs hn l t (suc k) d h = small_at w s n (o + 1) j ps hw hs hn l.4 t k d (omega arith)
small_at w s n f j (Run i ∷ ps) hw hs hn l t (suc k) d h = small_at w s n f (j + 1) ps hw hs hn l t.1 k d (omega arith)
small_at w s n f j (Image o id x y ∷ ps) hw hs hn l t (suc k) d h = small_at w s n (o + 2) j ps hw hs hn l.5 t k d (omega arith)

-- the numbers of a scene's patches are small
pub patches_small : (s : Scene) → Sound s → (k : ℕ) (d : Patch) → k < length s.patches → SmallPatch (get_or s.patches k d)
patches_small s h k d l =
    ∥∥₁_elim h.patched (small_prop _) (λ p. ∥∥₁_elim h.turned (small_prop _) (λ t.
    small_at _ _ _ 0 0 s.patches h.draw_data h.stops h.runs p t k d l))
