-- What an accepted call leaves true of the lists, from what its steps promise.
use Rattle.std.proofs.Common.{◌≡◌, ℕ, ◌+◌, ◌<◌, ◌≤◌, List, [], ◌∷◌, ◌++◌, map, length, get_or, Option, refl, ◌∙◌, add_comm, arith}
use mathlib.Core.Logic.{∥∥₁_map, ∥∥₁_map₂}
use Rattle.math.specs.declared.transform.Transform.{Transform}
use Rattle.records.specs.Moved.{moved_patch, moved_run, SmallPatch, SmallOffsets, SmallRun}
use Rattle.records.specs.declared.patch.Extend.{Extend}
use Rattle.records.specs.declared.patch.Patch.{Patch}
use Rattle.records.specs.declared.patch.Patch.TheVariants.{Ramp, GlyphRun as Run, Image}
use Rattle.records.specs.declared.glyph.GlyphRun.{GlyphRun}
use Rattle.records.specs.declared.glyph.StreamOffsets.{StreamOffsets}
use Rattle.encoding.specs.Shape.{Lies, Turns, Rises, Under, start}
use Rattle.records.specs.Counts.{added}
use Rattle.records.specs.declared.scene.Counts.{Counts}
use Rattle.encoding.specs.Scene.{Scene, meaning, ends}
use Rattle.encoding.specs.declared.encoding.Encoding.{Encoding}
use Rattle.encoding.proofs.Sounds.{sound}
use Rattle.encoding.proofs.Patches.{lies_append, lies_wider, lies_more, patches_small}
use Rattle.encoding.proofs.Turning.{turns_append, turns_more}
use Rattle.encoding.proofs.Runs.{under_self, rises_append, rises_wider, rises_more, ends_small, runs_small}

module _ (self : Encoding) where
  abbrev s : Scene
  s = meaning self

  -- longer streams with the same resources
  pub patched_longer : {w'' st'' : ℕ} → length s.draw_data ≤ w'' → length s.stops ≤ st'' → ∥ Lies w'' st'' 0 s.patches ∥₁
  patched_longer h k = ∥∥₁_map (sound self).patched (lies_wider _ _ _ _ 0 s.patches h k)

  pub recorded_longer : {a b c d e f : ℕ} → length s.path_tags ≤ a → length s.path_data ≤ b → length s.draw_tags ≤ c
      → length s.draw_data ≤ d → length s.transforms ≤ e → length s.styles ≤ f
      → ∥ Rises (record { path_tags = a; path_data = b; draw_tags = c; draw_data = d; transforms = e; styles = f }) (length s.glyphs) start s.runs ∥₁
  recorded_longer a b c d e f =
      let u : Under (ends s) (record { path_tags = _; path_data = _; draw_tags = _; draw_data = _; transforms = _; styles = _ })
      = record { path_tags = a; path_data = b; draw_tags = c; draw_data = d; transforms = e; styles = f } in
      ∥∥₁_map (sound self).recorded (rises_wider (ends s) _ (length s.glyphs) (length s.glyphs) start s.runs u (omega arith))

  -- one patch more
  patched_more : (w'' st'' : ℕ) {ps : List Patch} (p : Patch) → ps ≡ s.patches ++ p ∷ [] → length s.draw_data ≤ w'' → length s.stops ≤ st''
      → Lies w'' st'' (length s.draw_data) (p ∷ []) → ∥ Lies w'' st'' 0 ps ∥₁
  patched_more w'' st'' p e h k l = rw e (∥∥₁_map (sound self).patched (λ m. lies_more _ _ _ _ 0 s.patches p h k m l))

  turned_more : (n : ℕ) {ps : List Patch} (p : Patch) → ps ≡ s.patches ++ p ∷ [] → Turns n (length s.runs) (p ∷ []) → ∥ Turns n 0 ps ∥₁
  turned_more n p e t = rw e (∥∥₁_map (sound self).turned (λ m. turns_more _ _ 0 s.patches p m t))

  pub patched_ramp : (w'' st'' o a b : ℕ) (x : Extend) {ps : List Patch} → o ≡ length s.draw_data → ps ≡ s.patches ++ Ramp o a b x ∷ []
      → o + 1 ≤ w'' → length s.stops ≤ st'' → a + 2 ≤ b → b ≤ a + 16 → b ≤ st'' → ∥ Lies w'' st'' 0 ps ∥₁
  unfolding Lies
  patched_ramp w'' st'' o a b x q e h k u v w = patched_more w'' st'' (Ramp o a b x) e (omega arith) k (omega arith, u, v, w, h)

  pub turned_ramp : (o a b : ℕ) (x : Extend) {ps : List Patch} → ps ≡ s.patches ++ Ramp o a b x ∷ [] → ∥ Turns (length s.runs) 0 ps ∥₁
  unfolding Turns
  turned_ramp o a b x e = turned_more _ (Ramp o a b x) e refl

  pub patched_image : (w'' st'' o id w h : ℕ) {ps : List Patch} → o ≡ length s.draw_data → ps ≡ s.patches ++ Image o id w h ∷ []
      → o + 2 ≤ w'' → length s.stops ≤ st'' → w ≤ 65535 → h ≤ 65535 → 1 ≤ w → 1 ≤ h → ∥ Lies w'' st'' 0 ps ∥₁
  unfolding Lies
  patched_image w'' st'' o id w h q e l k a b c d = patched_more w'' st'' (Image o id w h) e (omega arith) k (omega arith, a, b, c, d, l)

  pub turned_image : (o id w h : ℕ) {ps : List Patch} → ps ≡ s.patches ++ Image o id w h ∷ [] → ∥ Turns (length s.runs) 0 ps ∥₁
  unfolding Turns
  turned_image o id w h e = turned_more _ (Image o id w h) e refl

  pub patched_run : (i : ℕ) {ps : List Patch} → ps ≡ s.patches ++ Run i ∷ [] → ∥ Lies (length s.draw_data) (length s.stops) 0 ps ∥₁
  unfolding Lies
  patched_run i e = patched_more _ _ (Run i) e (omega arith) (omega arith) (omega arith)

  pub turned_run : (i n : ℕ) {ps : List Patch} → i ≡ length s.runs → n ≡ length s.runs + 1 → ps ≡ s.patches ++ Run i ∷ [] → ∥ Turns n 0 ps ∥₁
  unfolding Turns
  turned_run i n q w e = turned_more n (Run i) e (q, omega arith)

  pub recorded_run : (n : ℕ) {rs : List GlyphRun} (r : GlyphRun) → rs ≡ s.runs ++ r ∷ [] → r.stream_offsets ≡ ends s
      → length s.glyphs ≤ n → r.glyphs_start ≤ r.glyphs_end → r.glyphs_end ≤ n → ∥ Rises (ends s) n start rs ∥₁
  unfolding Rises
  recorded_run n r e q h k l =
      let u : Under (ends s) r.stream_offsets = rw q (under_self (ends s)) in
      let v : Under r.stream_offsets (ends s) = rw q (under_self (ends s)) in
      rw e (∥∥₁_map (sound self).recorded (λ m. rises_more (ends s) _ _ start s.runs r h m (u, k, l, v)))

module _ (self other : Encoding) where
  abbrev own : Scene
  own = meaning self

  abbrev o : Scene
  o = meaning other

  pub patched_appended : (r : ℕ) {w st : ℕ} {ps : List Patch} {w'' s'' : ℕ}
      → w ≡ length own.draw_data → st ≡ length own.stops → ps ≡ own.patches ++ map (λ p. moved_patch w st r p) o.patches
      → w'' ≡ length own.draw_data + length o.draw_data → s'' ≡ length own.stops + length o.stops
      → ∥ Lies w'' s'' 0 ps ∥₁
  patched_appended r a b e c d =
      rw (e, a, b, c, d) (∥∥₁_map₂ (sound self).patched (sound other).patched (lies_append _ _ r _ _ 0 _ _))

  pub turned_appended : (w st : ℕ) {r : ℕ} {ps : List Patch} {n : ℕ}
      → r ≡ length own.runs → ps ≡ own.patches ++ map (λ p. moved_patch w st r p) o.patches
      → n ≡ length own.runs + length o.runs
      → ∥ Turns n 0 ps ∥₁
  turned_appended w st a e c = rw (e, a, c) (∥∥₁_map₂ (sound self).turned (sound other).turned (turns_append w st _ _ 0 _ _))

  pub patches_fit : {w st r : ℕ} → w ≡ length own.draw_data → st ≡ length own.stops → r ≡ length own.runs
      → (k : ℕ) (d : Patch) → k < length o.patches
      → (w ≤ 1000000) × (st ≤ 1000000) × (r ≤ 1000000) × SmallPatch (get_or o.patches k d)
  patches_fit a b c k d h = (rw a (sound self).draw_data, rw b (sound self).stops, rw c (sound self).runs, patches_small o (sound other) k d h)

  pub runs_fit : {b : StreamOffsets} {n : ℕ} → b ≡ ends own → n ≡ length own.glyphs
      → (k : ℕ) (d : GlyphRun) → k < length o.runs
      → SmallOffsets b × (n ≤ 1000000) × SmallRun (get_or o.runs k d)
  runs_fit a b k d h = (rw a (ends_small own (sound self)), rw b (sound self).glyphs, runs_small o (sound other) k d h)

  pub recorded_appended : {bs : StreamOffsets} {g n : ℕ} {rs : List GlyphRun} (t : Option Transform) {a b c d e f : ℕ}
      → bs ≡ ends own → g ≡ length own.glyphs
      → rs ≡ own.runs ++ map (λ r. moved_run t bs g r) o.runs
      → n ≡ length own.glyphs + length o.glyphs
      → a ≡ length own.path_tags + length o.path_tags
      → b ≡ length own.path_data + length o.path_data
      → c ≡ length own.draw_tags + length o.draw_tags
      → d ≡ length own.draw_data + length o.draw_data
      → e ≡ length own.transforms + length o.transforms
      → f ≡ length own.styles + length o.styles
      → ∥ Rises (record { path_tags = a; path_data = b; draw_tags = c; draw_data = d; transforms = e; styles = f }) n start rs ∥₁
  recorded_appended t bs g q n a b c d e f =
      let a' = a ∙ add_comm (length own.path_tags) (length o.path_tags) in
      let b' = b ∙ add_comm (length own.path_data) (length o.path_data) in
      let c' = c ∙ add_comm (length own.draw_tags) (length o.draw_tags) in
      let d' = d ∙ add_comm (length own.draw_data) (length o.draw_data) in
      let e' = e ∙ add_comm (length own.transforms) (length o.transforms) in
      let f' = f ∙ add_comm (length own.styles) (length o.styles) in
      rw (q, bs, g, n, a', b', c', d', e', f') (∥∥₁_map₂ (sound self).recorded (sound other).recorded (rises_append t (ends own) (ends o) _ _ start _ _))

pub few_added : (a b c : Counts) → c ≡ added a b
    → (a.n_paths + b.n_paths ≤ 1000000) × (a.n_path_segments + b.n_path_segments ≤ 1000000) × (a.n_clips + b.n_clips ≤ 1000000) × (a.n_open_clips + b.n_open_clips ≤ 1000000)
    → (c.n_paths ≤ 1000000) × (c.n_path_segments ≤ 1000000) × (c.n_clips ≤ 1000000) × (c.n_open_clips ≤ 1000000)
few_added a b c e h = rw e h
