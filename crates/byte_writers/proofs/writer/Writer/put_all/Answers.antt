use Rattle.std.proofs.Common.{length, take, ◌++◌, sym, ap, ◌∙◌, arith}
use Rattle.std.specs.List.{flat_map}
use Rattle.std.proofs.lemmas.List.Folds.{length-flat_map-take}
use Rattle.byte_writers.proofs.Puts.{length_wide, wrote_then, wrote_as, flat_map_step}
use Rattle.byte_writers.proofs.writer.Writer.put_all.Goals as goal

pub put-requires : goal.put-requires
put-requires g c =
    let f = g.T.Entry.bytes in
    let xs = c.args.entries.now in
    let r = length-flat_map-take f xs c.loop-entry.entry-index c.entry-item.result c.loop-entry-test.true in
    let e = ap (λ x. length (f x)) c.entry-item.is in
    let w = g.met.T.Entry.wides c.entry-item.result in
    let all = length_wide f g.T.Entry.wide g.met.T.Entry.wides xs in
    omega (arith, c.requires, c.loop-entry.invariant.put.size, c.loop-entry.invariant.long, r, e, w, all)

pub loop-entry-preserved : goal.loop-entry-preserved
loop-entry-preserved g c =
    let f = g.T.Entry.bytes in
    let s = flat_map_step f c.args.entries.now c.loop-entry.entry-index c.entry-item.result c.loop-entry-test.true in
    wrote_as (ap (λ x. flat_map f (take c.loop-entry.entry-index c.args.entries.now) ++ f x) c.entry-item.is ∙ sym s) (wrote_then (omega (arith, c.requires)) c.loop-entry.invariant c.put.ensures)
