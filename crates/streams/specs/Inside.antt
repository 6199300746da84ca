-- Runs whose glyphs lie in a list.
use Rattle.std.specs.Prelude.{ℕ, ◌<◌, ◌≤◌, List, length, slice_index_or}
use Rattle.records.specs.declared.glyph.GlyphRun.{GlyphRun}

-- each run's glyphs lie within n
abbrev pub Inside : ℕ → List GlyphRun → Type 0
Inside n rs = (k : ℕ) (d : GlyphRun) → k < length rs → ((slice_index_or rs k d).glyphs_start ≤ (slice_index_or rs k d).glyphs_end) × ((slice_index_or rs k d).glyphs_end ≤ n)
