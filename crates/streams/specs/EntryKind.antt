-- A stream with a session test and bytes of its own, by its meaning: its entries, their count and their bytes.
use Rattle.std.specs.Prelude.{◌≡◌, ℕ, ◌+◌, Bool, cond, List, [], ◌++◌, map, length, sum_by}
use Rattle.std.specs.List.{flat_map}
use Rattle.records.specs.declared.glyph.Glyph.{Glyph}
use Rattle.records.specs.declared.glyph.GlyphRun.{GlyphRun}
use Rattle.records.specs.declared.glyph.StreamOffsets.{StreamOffsets}
use Rattle.streams.specs.Splice.{spliced, Cut}
use Rattle.streams.specs.Kind.{range_of}

pub record EntryKind (X : Type 0) : Type 0 where
  -- the stream's recorded length
  pub place : StreamOffsets → ℕ
  pub session : GlyphRun → Bool
  -- what a run puts for a glyph, and after its last
  pub each : GlyphRun → Glyph → List X
  pub close : GlyphRun → List X
  -- an entry's bytes
  pub bytes : X → List ℕ
  pub wide : ℕ
  pub wides : (x : X) → length (bytes x) ≡ wide

-- what a run puts, over its glyphs
abbrev pub entry_put : {X : Type 0} → EntryKind X → List Glyph → GlyphRun → List X
entry_put K gs r = cond (K.session r) (flat_map (K.each r) gs ++ K.close r) []

-- a run's cut, at its recorded length
abbrev pub entry_cut : {X : Type 0} → EntryKind X → List Glyph → GlyphRun → Cut X
entry_cut K gs r = record { place = K.place r.stream_offsets; gone = 0; put = entry_put K (range_of gs r) r }

abbrev pub entry_cuts : {X : Type 0} → EntryKind X → List Glyph → List GlyphRun → List (Cut X)
entry_cuts K gs rs = map (entry_cut K gs) rs

abbrev pub entry_stream : {X : Type 0} → EntryKind X → List X → List Glyph → List GlyphRun → List X
entry_stream K xs gs rs = spliced 0 xs (entry_cuts K gs rs)

abbrev pub entry_stream_bytes : {X : Type 0} → EntryKind X → List X → List Glyph → List GlyphRun → List ℕ
entry_stream_bytes K xs gs rs = flat_map K.bytes (entry_stream K xs gs rs)

-- how many entries
abbrev pub entry_glyphs_count : {X : Type 0} → EntryKind X → List Glyph → GlyphRun → ℕ
entry_glyphs_count K gs r = length (K.close r) + sum_by (λ g. length (K.each r g)) gs

abbrev pub entry_run_count : {X : Type 0} → EntryKind X → List Glyph → GlyphRun → ℕ
entry_run_count K gs r = cond (K.session r) (entry_glyphs_count K gs r) 0

abbrev pub entry_runs_count : {X : Type 0} → EntryKind X → List Glyph → List GlyphRun → ℕ
entry_runs_count K gs rs = sum_by (λ r. entry_run_count K (range_of gs r) r) rs

abbrev pub entry_stream_count : {X : Type 0} → EntryKind X → ℕ → List Glyph → List GlyphRun → ℕ
entry_stream_count K n gs rs = n + entry_runs_count K gs rs
