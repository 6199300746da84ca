use Rattle.std.proofs.Common.{refl, arith}
use Rattle.byte_writers.specs.Bytes.{word_bytes}
use Rattle.byte_writers.proofs.Puts.{length_wide}
use Rattle.streams.specs.Inserted.{outline_of}
use Rattle.streams.proofs.kinds.PathDataRunStream.put_glyph.Goals as goal

pub put_glyph-requires : goal.put_glyph-requires
put_glyph-requires g c =
    omega (arith, c.requires, length_wide word_bytes 4 (λ _. refl) (outline_of (g.G.GlyphSupply.meaning c.args.supply.now) c.args.run.now c.args.glyph.now).words)
