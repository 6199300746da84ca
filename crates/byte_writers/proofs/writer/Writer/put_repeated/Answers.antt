use Rattle.std.proofs.Common.{◌*◌, [], replicate, ap, ◌∙◌, mul-one, arith}
use Rattle.std.specs.List.{flat_map}
use Rattle.std.proofs.lemmas.List.{flat_map_more, length-replicate, replicate_more}
use Rattle.byte_writers.proofs.Puts.{length_wide, wide_le, wrote_then, wrote_as}
use Rattle.byte_writers.proofs.writer.Writer.put_repeated.Goals as goal

pub put-requires : goal.put-requires
put-requires g c =
    let w = g.T.Entry.wide in
    let i = c.loop.counter in
    let e = length_wide g.T.Entry.bytes w g.met.T.Entry.wides (replicate i c.args.entry) ∙ ap (λ k. w * k) (length-replicate i c.args.entry) in
    omega (arith, c.requires, c.loop.invariant.put.size, c.loop.invariant.long, e, wide_le w i 1 c.args.count (omega arith), mul-one w)

pub loop-preserved : goal.loop-preserved
loop-preserved g c =
    wrote_as (flat_map_more g.T.Entry.bytes [] (replicate c.loop.counter c.args.entry) c.args.entry ∙ ap (flat_map g.T.Entry.bytes) (replicate_more c.loop.counter c.args.entry))
    (wrote_then (omega (arith, c.requires)) c.loop.invariant c.put.ensures)
