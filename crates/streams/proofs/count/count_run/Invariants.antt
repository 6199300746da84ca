use Rattle.std.proofs.Common.{◌≡◌, ◌+◌, ◌*◌, take}
use Rattle.streams.specs.Count.{AtMost, glyphs_inserted}
use Rattle.streams.proofs.count.count_run.Given as goal

abbrev pub invariant-loop-glyph : goal.invariant-loop-glyph
invariant-loop-glyph g l = record {
  value : l.sum ≡ glyphs_inserted (g.G.GlyphSupply.meaning l.supply) (take l.glyph-index l.glyphs) l.run;
  small : AtMost 1 (2 + 65537 * l.glyph-index) l.sum;
}
