use Rattle.std.proofs.Common.{arith}
use Rattle.byte_writers.proofs.Puts.{length_wide}
use Rattle.streams.proofs.supplied.SuppliedEntryStreamItem.put_entries.Goals as goal

pub put_all-requires : goal.put_all-requires
put_all-requires g c = omega (arith, c.requires, length_wide g.S.Item.Entry.bytes g.S.Item.Entry.wide g.met.S.Item.Entry.wides (c.args.entries.now))
