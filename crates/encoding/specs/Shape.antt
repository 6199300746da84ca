-- What every scene keeps, over its lists.
use Rattle.std.specs.Prelude.{◌≡◌, ℕ, ◌+◌, ◌≤◌, List, [], ◌∷◌}
use Rattle.records.specs.declared.patch.Patch.{Patch}
use Rattle.records.specs.declared.patch.Patch.TheVariants.{Ramp, GlyphRun as Run, Image}
use Rattle.records.specs.declared.glyph.GlyphRun.{GlyphRun}
use Rattle.records.specs.declared.glyph.StreamOffsets.{StreamOffsets}

-- from `from` on the patches own draw words in order, without overlap, inside the list: a ramp one and a
-- picture two; a ramp has 2 to 16 stops, inside their list
unfoldable pub Lies : ℕ → ℕ → ℕ → List Patch → Type 0
Lies words stops from [] = from ≤ words
Lies words stops from (Ramp o a b e ∷ ps) = (from ≤ o) × (a + 2 ≤ b) × (b ≤ a + 16) × (b ≤ stops) × Lies words stops (o + 1) ps
Lies words stops from (Run i ∷ ps) = Lies words stops from ps
Lies words stops from (Image o id w h ∷ ps) = (from ≤ o) × (w ≤ 65535) × (h ≤ 65535) × (1 ≤ w) × (1 ≤ h) × Lies words stops (o + 2) ps

-- the patches of runs name the runs from k to n in order, each once
unfoldable pub Turns : ℕ → ℕ → List Patch → Type 0
Turns n k [] = k ≡ n
Turns n k (Ramp o a b e ∷ ps) = Turns n k ps
Turns n k (Run i ∷ ps) = (i ≡ k) × Turns n (k + 1) ps
Turns n k (Image o id w h ∷ ps) = Turns n k ps

-- no length of the first passes that of the second
pub record Under (a b : StreamOffsets) : Type 0 where
  pub path_tags : a.path_tags ≤ b.path_tags
  pub path_data : a.path_data ≤ b.path_data
  pub draw_tags : a.draw_tags ≤ b.draw_tags
  pub draw_data : a.draw_data ≤ b.draw_data
  pub transforms : a.transforms ≤ b.transforms
  pub styles : a.styles ≤ b.styles

-- the recorded lengths never fall from run to run and never pass the ends; glyph ranges lie inside
unfoldable pub Rises : StreamOffsets → ℕ → StreamOffsets → List GlyphRun → Type 0
Rises ends glyphs from [] = Under from ends
Rises ends glyphs from (r ∷ rs) =
    Under from r.stream_offsets × (r.glyphs_start ≤ r.glyphs_end) × (r.glyphs_end ≤ glyphs) × Rises ends glyphs r.stream_offsets rs

abbrev pub start : StreamOffsets
start = record { path_tags = 0; path_data = 0; draw_tags = 0; draw_data = 0; transforms = 0; styles = 0 }
