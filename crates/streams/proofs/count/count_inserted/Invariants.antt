use Rattle.std.proofs.Common.{◌≡◌, ◌*◌, take}
use Rattle.streams.specs.Count.{all_inserted, AtMost}
use Rattle.streams.proofs.count.count_inserted.Given as goal

abbrev pub invariant-loop-run : goal.invariant-loop-run
invariant-loop-run g l = record {
  value : l.sum ≡ all_inserted (g.G.GlyphSupply.meaning l.supply) l.all.glyphs.now (take l.run-index l.all.runs.now);
  small : AtMost l.run-index (65537000002 * l.run-index) l.sum;
}
