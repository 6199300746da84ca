use Rattle.std.proofs.Common.{drop}
use Rattle.streams.specs.EntryKind.{entry_cuts, entry_stream}
use Rattle.streams.proofs.Left.{Left}
use Rattle.streams.proofs.runs.put_entry_stream.Given as goal

abbrev pub invariant-loop-run : goal.invariant-loop-run
invariant-loop-run g l =
    let K = g.S.EntryStream.kind l.stream in
    Left K.bytes l.initial.writer l.writer l.entries (entry_stream K l.entries l.all.glyphs.now l.all.runs.now)
    (entry_cuts K l.all.glyphs.now (drop l.run-index l.all.runs.now)) l.from
