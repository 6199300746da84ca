-- A stream that runs go into, by its meaning: what a run puts there, and the count and the bytes of its entries.
use Rattle.std.specs.Prelude.{ℕ, ◌+◌, cond, List, [], ◌++◌, map, length, sum_by}
use Rattle.std.specs.List.{between, flat_map}
use Rattle.records.specs.declared.glyph.Glyph.{Glyph}
use Rattle.records.specs.declared.glyph.GlyphRun.{GlyphRun}
use Rattle.records.specs.declared.glyph.StreamOffsets.{StreamOffsets}
use Rattle.supply.specs.Meaning.{Meaning}
use Rattle.streams.specs.Inserted.{session_of}
use Rattle.streams.specs.Splice.{spliced, Cut}

pub record Kind (X : Type 0) : Type 0 where
  -- the stream's recorded length
  pub place : StreamOffsets → ℕ
  -- what a run puts for a glyph, and after its last
  pub each : Meaning → GlyphRun → Glyph → List X
  pub close : GlyphRun → List X

-- what a run puts, over its glyphs
abbrev pub put_of : {X : Type 0} → Kind X → Meaning → List Glyph → GlyphRun → List X
put_of K m gs r = cond (session_of m r) (flat_map (K.each m r) gs ++ K.close r) []

abbrev pub range_of : List Glyph → GlyphRun → List Glyph
range_of gs r = between r.glyphs_start r.glyphs_end gs

-- a run's cut, at its recorded length
abbrev pub cut_of : {X : Type 0} → Kind X → Meaning → List Glyph → GlyphRun → Cut X
cut_of K m gs r = record { place = K.place r.stream_offsets; gone = 0; put = put_of K m (range_of gs r) r }

abbrev pub cuts_of : {X : Type 0} → Kind X → Meaning → List Glyph → List GlyphRun → List (Cut X)
cuts_of K m gs rs = map (cut_of K m gs) rs

abbrev pub stream_of : {X : Type 0} → Kind X → Meaning → List X → List Glyph → List GlyphRun → List X
stream_of K m xs gs rs = spliced 0 xs (cuts_of K m gs rs)

-- in bytes, f of each entry
abbrev pub stream_bytes : {X : Type 0} → (X → List ℕ) → Kind X → Meaning → List X → List Glyph → List GlyphRun → List ℕ
stream_bytes f K m xs gs rs = flat_map f (stream_of K m xs gs rs)

-- how many entries
abbrev pub glyphs_count : {X : Type 0} → Kind X → Meaning → List Glyph → GlyphRun → ℕ
glyphs_count K m gs r = length (K.close r) + sum_by (λ g. length (K.each m r g)) gs

abbrev pub run_count : {X : Type 0} → Kind X → Meaning → List Glyph → GlyphRun → ℕ
run_count K m gs r = cond (session_of m r) (glyphs_count K m gs r) 0

abbrev pub runs_count : {X : Type 0} → Kind X → Meaning → List Glyph → List GlyphRun → ℕ
runs_count K m gs rs = sum_by (λ r. run_count K m (range_of gs r) r) rs

abbrev pub stream_count : {X : Type 0} → Kind X → Meaning → ℕ → List Glyph → List GlyphRun → ℕ
stream_count K m n gs rs = n + runs_count K m gs rs
