use Rattle.std.proofs.Common.{arith}
use Rattle.byte_writers.proofs.Puts.{length_wide}
use Rattle.streams.proofs.supplied.SuppliedEntryStreamItem.put_close.Goals as goal

pub put_close-requires : goal.put_close-requires
put_close-requires g c = omega (arith, c.requires, length_wide g.S.Item.Entry.bytes g.S.Item.Entry.wide g.met.S.Item.Entry.wides (g.S.RunStream.kind.close c.args.run.now))
