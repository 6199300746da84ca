use Rattle.std.proofs.Common.{take}
use Rattle.std.specs.List.{flat_map}
use Rattle.byte_writers.specs.Wrote.{Wrote}
use Rattle.streams.proofs.runs.put_run.Given as goal

abbrev pub invariant-loop-glyph : goal.invariant-loop-glyph
invariant-loop-glyph g l =
    let K = g.S.EntryStream.kind l.stream in
    Wrote l.initial.writer (flat_map K.bytes (flat_map (K.each l.run) (take l.glyph-index l.glyphs))) l.writer
