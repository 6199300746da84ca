use Rattle.std.proofs.Common.{vec_items}
use Rattle.commands.specs.Entries.{entries_of}
use Rattle.job_text.specs.Parts.{left}
use Rattle.commands.proofs.Taken.{Sofar}
use Rattle.commands.proofs.lists.VecValue.read.Given as goal

abbrev pub invariant-loop-entry : goal.invariant-loop-entry
invariant-loop-entry g l = Sofar g.T.Value.reads (entries_of l.text) (vec_items l.entries) (left l.entry-iterator)
