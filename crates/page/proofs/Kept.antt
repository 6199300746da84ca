-- The runs and patches of a sound scene are cuts of its streams.
use Rattle.std.proofs.Common.{◌≡◌, ℕ, zero, suc, ◌+◌, ◌≤◌, List, [], ◌∷◌, length, refl, subst, add-zero, arith}
use mathlib.Core.Logic.{∥∥₁_elim}
use native.Mathlib.Bridge.{le_prop}
use Rattle.records.specs.declared.glyph.Glyph.{Glyph}
use Rattle.records.specs.declared.glyph.GlyphRun.{GlyphRun}
use Rattle.records.specs.declared.glyph.StreamOffsets.{StreamOffsets}
use Rattle.records.specs.declared.patch.Patch.{Patch}
use Rattle.records.specs.declared.patch.Patch.TheVariants.{Ramp, GlyphRun as Run, Image}
use Rattle.supply.specs.Meaning.{Meaning}
use Rattle.streams.specs.Splice.{Cut, Cuts}
use Rattle.streams.specs.Inside.{Inside}
use Rattle.streams.specs.Kind.{Kind, cuts_of}
use Rattle.streams.specs.Kinds.{tags_kind, data_kind, transforms_kind, styles_kind}
use Rattle.streams.specs.Draw.{Late, Owned, draw_data_cuts}
use Rattle.encoding.specs.Shape.{Rises, Under, Lies, start}
use Rattle.encoding.specs.Scene.{Scene, Sound, ends}

cuts_prop : {X : Type 0} (n f : ℕ) (cs : List (Cut X)) → IsProp (Cuts n f cs)
cuts_prop n f [] p q = le_prop p q
cuts_prop n f (c ∷ cs) p q = λ i. (le_prop p.0 q.0 i, cuts_prop n (c.place + c.gone) cs p.1 q.1 i)

-- the recorded lengths of the runs never fall
cuts_rise : {X : Type 0} (K : Kind X) (m : Meaning) (rises : (a b : StreamOffsets) → Under a b → K.place a ≤ K.place b) (gs : List Glyph) (e : StreamOffsets) (n : ℕ) (f : StreamOffsets) (rs : List GlyphRun)
    → Rises e n f rs → Cuts (K.place e) (K.place f) (cuts_of K m gs rs)
unfolding Rises
cuts_rise K m rises gs e n f [] h = rises f e h
cuts_rise K m rises gs e n f (r ∷ rs) h =
    (rises f r.stream_offsets h.0, rw add-zero (cuts_rise K m rises gs e n r.stream_offsets rs h.3))

inside_rise : (e : StreamOffsets) (n : ℕ) (f : StreamOffsets) (rs : List GlyphRun) → Rises e n f rs → Inside n rs
unfolding Rises
inside_rise e n f [] h k d l = absurd (omega arith)
inside_rise e n f (r ∷ rs) h zero d l = (h.1, h.2)
inside_rise e n f (r ∷ rs) h (suc k) d l = inside_rise e n r.stream_offsets rs h.3 k d (omega arith)

cuts_lower : {X : Type 0} (n f g : ℕ) (cs : List (Cut X)) → g ≤ f → Cuts n f cs → Cuts n g cs
cuts_lower n f g [] l h = omega arith
cuts_lower n f g (c ∷ cs) l h = (omega arith, h.1)

-- the words that patches own lie apart
draw_data_cuts_fit : (late : Late) (n st k f : ℕ) (ps : List Patch) → Lies n st f ps → Owned late k ps → Cuts n f (draw_data_cuts late k ps)
unfolding Lies
draw_data_cuts_fit late n st k f [] h w = h
draw_data_cuts_fit late n st k f (Ramp o a b e ∷ ps) h w = (h.0, cuts_lower n (o + 1) _ _ (omega arith) (draw_data_cuts_fit late n st (k + 1) (o + 1) ps h.4 w.1))
draw_data_cuts_fit late n st k f (Run i ∷ ps) h w = draw_data_cuts_fit late n st (k + 1) f ps h w
draw_data_cuts_fit late n st k f (Image o id wd hg ∷ ps) h w = (h.0, cuts_lower n (o + 2) _ _ (omega arith) (draw_data_cuts_fit late n st (k + 1) (o + 2) ps h.5 w.1))

module _ (s : Scene) (h : Sound s) where
  pub inside_kept : Inside (length s.glyphs) s.runs
  inside_kept k d l = (
    ∥∥₁_elim h.recorded le_prop (λ r. (inside_rise (ends s) _ start s.runs r k d l).0),
    ∥∥₁_elim h.recorded le_prop (λ r. (inside_rise (ends s) _ start s.runs r k d l).1),
  )

  pub draw_kept : (late : Late) → Owned late 0 s.patches → Cuts (length s.draw_data) 0 (draw_data_cuts late 0 s.patches)
  draw_kept late w = ∥∥₁_elim h.patched (cuts_prop _ 0 (draw_data_cuts late 0 s.patches)) (λ l. draw_data_cuts_fit late _ _ 0 0 s.patches l w)

  cuts_kept : {X : Type 0} (K : Kind X) (m : Meaning) (rises : (a b : StreamOffsets) → Under a b → K.place a ≤ K.place b) → K.place start ≡ 0 → Cuts (K.place (ends s)) 0 (cuts_of K m s.glyphs s.runs)
  cuts_kept K m rises z =
      ∥∥₁_elim h.recorded (cuts_prop (K.place (ends s)) 0 (cuts_of K m s.glyphs s.runs))
      (λ r. subst (λ f. Cuts (K.place (ends s)) f (cuts_of K m s.glyphs s.runs)) z (cuts_rise K m rises s.glyphs (ends s) _ start s.runs r))

  pub tags_kept : (m : Meaning) → Cuts (length s.path_tags) 0 (cuts_of tags_kind m s.glyphs s.runs)
  tags_kept m = cuts_kept tags_kind m (λ a b u. u.path_tags) refl

  pub data_kept : (m : Meaning) → Cuts (length s.path_data) 0 (cuts_of data_kind m s.glyphs s.runs)
  data_kept m = cuts_kept data_kind m (λ a b u. u.path_data) refl

  pub transforms_kept : (m : Meaning) → Cuts (length s.transforms) 0 (cuts_of transforms_kind m s.glyphs s.runs)
  transforms_kept m = cuts_kept transforms_kind m (λ a b u. u.transforms) refl

  pub styles_kept : (m : Meaning) → Cuts (length s.styles) 0 (cuts_of styles_kind m s.glyphs s.runs)
  styles_kept m = cuts_kept styles_kind m (λ a b u. u.styles) refl
