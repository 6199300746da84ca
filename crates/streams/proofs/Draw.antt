-- The draw data has as many words as the scene's, and its patches are cuts.
use Rattle.std.proofs.Common.{◌≡◌, ℕ, ◌+◌, ◌<◌, ◌≤◌, List, [], ◌∷◌, length, get_or, drop, Some, None, sum_by, Option, sym, refl, ap, ◌∙◌, subst, arith}
use Rattle.std.proofs.lemmas.List.{drop_more, drop_all}
use Rattle.std.proofs.lemmas.List.Sums.{sum_by-cons}
use Rattle.byte_writers.specs.Bytes.{word_bytes}
use Rattle.byte_writers.specs.declared.writer.Writer.{Writer}
use Rattle.records.specs.declared.patch.Patch.{Patch}
use Rattle.records.specs.declared.patch.Patch.TheVariants.{Ramp, GlyphRun as Run, Image}
use Rattle.streams.specs.Splice.{Cut, Cuts}
use Rattle.streams.specs.Draw.{Late, late_cut, draw_data_cuts, bound_draw_data, owned_from}
use Rattle.streams.proofs.Left.{Left, counted}

abbrev with_cut : Late → ℕ → Option ℕ → List (Cut ℕ) → List (Cut ℕ)
with_cut late k None cs = cs
with_cut late k (Some o) cs = late_cut late k o ∷ cs

step : (late : Late) (k : ℕ) (p : Patch) (ps : List Patch) → draw_data_cuts late k (p ∷ ps) ≡ with_cut late k (owned_from p) (draw_data_cuts late (k + 1) ps)
step late k (Ramp o a b e) ps = refl
step late k (Run i) ps = refl
step late k (Image o id w h) ps = refl

module _ (late : Late) where
  -- as many words come as go
  evened_cut : (k o : ℕ) (cs : List (Cut ℕ)) → sum_by (λ c. c.gone) cs ≡ sum_by (λ c. length c.put) cs
      → sum_by (λ c. c.gone) (late_cut late k o ∷ cs) ≡ sum_by (λ c. length c.put) (late_cut late k o ∷ cs)
  evened_cut k o cs e =
      let s = sum_by-cons (λ (c : Cut ℕ). c.gone) (late_cut late k o) cs in
      let t = sum_by-cons (λ (c : Cut ℕ). length c.put) (late_cut late k o) cs in
      omega arith

  evened : (k : ℕ) (ps : List Patch) → sum_by (λ c. c.gone) (draw_data_cuts late k ps) ≡ sum_by (λ c. length c.put) (draw_data_cuts late k ps)
  evened k [] = refl
  evened k (Ramp o a b e ∷ ps) = evened_cut k o (draw_data_cuts late (k + 1) ps) (evened (k + 1) ps)
  evened k (Run i ∷ ps) = evened (k + 1) ps
  evened k (Image o id w h ∷ ps) = evened_cut k o (draw_data_cuts late (k + 1) ps) (evened (k + 1) ps)

  pub draw_counted : (xs : List ℕ) (ps : List Patch) → Cuts (length xs) 0 (draw_data_cuts late 0 ps) → length (bound_draw_data late xs ps) ≡ length xs
  draw_counted xs ps h = let a = counted xs 0 (draw_data_cuts late 0 ps) h in let b = evened 0 ps in omega arith

  -- a loop over the patches, at patch k
  module _ {before after : Writer} {xs W : List ℕ} {from : ℕ} (ps : List Patch) (k : ℕ) (g : Left word_bytes before after xs W (draw_data_cuts late k (drop k ps)) from) where
    moved : (d : Patch) (o : Option ℕ) → k < length ps → o ≡ owned_from (get_or ps k d) → draw_data_cuts late k (drop k ps) ≡ with_cut late k o (draw_data_cuts late (k + 1) (drop (k + 1) ps))
    moved d o h e =
        ap (draw_data_cuts late k) (drop_more ps k d h) ∙ step late k (get_or ps k d) (drop (k + 1) ps) ∙ ap (λ q. with_cut late k q (draw_data_cuts late (k + 1) (drop (k + 1) ps))) (sym e)

    -- the patch owns words from o on, and binds ws
    pub next_cut : (d : Patch) (o : ℕ) (ws : List ℕ) → k < length ps → Some o ≡ owned_from (get_or ps k d) → ws ≡ late k
        → Left word_bytes before after xs W (record { place = o; gone = length ws; put = ws } ∷ draw_data_cuts late (k + 1) (drop (k + 1) ps)) from
    next_cut d o ws h e b =
        subst (λ v. Left word_bytes before after xs W (record { place = o; gone = length v; put = v } ∷ draw_data_cuts late (k + 1) (drop (k + 1) ps)) from) (sym b)
        (subst (λ cs. Left word_bytes before after xs W cs from) (moved d (Some o) h e) g)

    pub passed : (d : Patch) → k < length ps → None ≡ owned_from (get_or ps k d) → Left word_bytes before after xs W (draw_data_cuts late (k + 1) (drop (k + 1) ps)) from
    passed d h e = subst (λ cs. Left word_bytes before after xs W cs from) (moved d None h e) g

    pub no_patch_left : length ps ≤ k → Left word_bytes before after xs W [] from
    no_patch_left h = subst (λ cs. Left word_bytes before after xs W cs from) (ap (draw_data_cuts late k) (drop_all k ps h)) g
