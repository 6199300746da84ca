use Rattle.std.proofs.Common.{arith}
use Rattle.byte_writers.proofs.Puts.{length_wide}
use Rattle.streams.proofs.supplied.SuppliedEntryStreamItem.put_glyph.Goals as goal

pub put_glyph-requires : goal.put_glyph-requires
put_glyph-requires g c = omega (arith, c.requires, length_wide g.S.Item.Entry.bytes g.S.Item.Entry.wide g.met.S.Item.Entry.wides (g.S.RunStream.kind.each (g.G.GlyphSupply.meaning c.args.self.now.supply.now) c.args.run.now c.args.glyph.now))
