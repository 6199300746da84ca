use Rattle.std.proofs.Common.{take}
use Rattle.std.specs.List.{flat_map}
use Rattle.byte_writers.specs.Wrote.{Wrote}
use Rattle.byte_writers.proofs.writer.Writer.put_all.Given as goal

abbrev pub invariant-loop-entry : goal.invariant-loop-entry
invariant-loop-entry g l = Wrote l.initial.self (flat_map g.T.Entry.bytes (take l.entry-index l.entries)) l.self
