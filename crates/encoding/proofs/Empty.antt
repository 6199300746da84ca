-- A scene with nothing in it.
use Rattle.std.proofs.Common.{◌≡◌, ℕ, List, [], arith}
use Rattle.records.specs.declared.patch.Patch.{Patch}
use Rattle.records.specs.declared.glyph.GlyphRun.{GlyphRun}
use Rattle.records.specs.declared.glyph.StreamOffsets.{StreamOffsets}
use Rattle.encoding.specs.Shape.{Lies, Turns, Rises, start}

lies_none : (w s : ℕ) → Lies w s 0 []
unfolding Lies
lies_none w s = omega arith

pub patched_none : (w s : ℕ) {ps : List Patch} → ps ≡ [] → ∥ Lies w s 0 ps ∥₁
patched_none w s e = rw e (∣ lies_none w s ∣₁)

turns_none : Turns 0 0 []
unfolding Turns
turns_none = omega arith

pub turned_none : {n : ℕ} {ps : List Patch} → n ≡ 0 → ps ≡ [] → ∥ Turns n 0 ps ∥₁
turned_none e q = rw (e, q) (∣ turns_none ∣₁)

rises_none : (e : StreamOffsets) (n : ℕ) → Rises e n start []
unfolding Rises
rises_none e n = record {
  path_tags = omega arith;
  path_data = omega arith;
  draw_tags = omega arith;
  draw_data = omega arith;
  transforms = omega arith;
  styles = omega arith;
}

pub recorded_none : (e : StreamOffsets) (n : ℕ) {rs : List GlyphRun} → rs ≡ [] → ∥ Rises e n start rs ∥₁
recorded_none e n q = rw q (∣ rises_none e n ∣₁)
