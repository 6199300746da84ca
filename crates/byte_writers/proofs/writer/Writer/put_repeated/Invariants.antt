use Rattle.std.proofs.Common.{replicate}
use Rattle.std.specs.List.{flat_map}
use Rattle.byte_writers.specs.Wrote.{Wrote}
use Rattle.byte_writers.proofs.writer.Writer.put_repeated.Given as goal

abbrev pub invariant-loop : goal.invariant-loop
invariant-loop g l = Wrote l.initial.self (flat_map g.T.Entry.bytes (replicate l.counter l.entry)) l.self
