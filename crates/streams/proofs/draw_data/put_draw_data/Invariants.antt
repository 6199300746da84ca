use Rattle.std.proofs.Common.{drop}
use Rattle.byte_writers.specs.Bytes.{word_bytes}
use Rattle.streams.specs.Draw.{draw_data_cuts, bound_draw_data}
use Rattle.streams.proofs.Left.{Left}
use Rattle.streams.proofs.draw_data.put_draw_data.Given as goal

abbrev pub invariant-loop-k : goal.invariant-loop-k
invariant-loop-k g l =
    Left word_bytes l.initial.writer l.writer l.words (bound_draw_data (g.L.LateWords.late l.late) l.words l.patches)
    (draw_data_cuts (g.L.LateWords.late l.late) l.k (drop l.k l.patches)) l.from
