use Rattle.std.proofs.Common.{◌*◌, length, drop, refl, sym, ap, add-zero, arith}
use Rattle.std.specs.List.{between, flat_map}
use Rattle.std.proofs.lemmas.List.{take_rest}
use Rattle.byte_writers.proofs.Puts.{length_wide}
use Rattle.streams.specs.EntryKind.{entry_cuts}
use Rattle.streams.proofs.Left.{begun, rises, room, rest, advance, ended, left_as}
use Rattle.streams.proofs.EntryCounted.{entry_stream_counted, entry_next_cut, entry_no_run_left}
use Rattle.streams.proofs.runs.put_entry_stream.Goals as goal

pub loop-run-init : goal.loop-run-init
loop-run-init g c =
    let K = g.S.EntryStream.kind c.args.stream.now in
    begun K.bytes c.args.writer.now c.args.entries.now (entry_cuts K c.args.all.glyphs.now c.args.all.runs.now) c.requires.cuts

pub offset_bounds-entries-from : goal.offset_bounds-entries-from
offset_bounds-entries-from g c =
    let t = entry_next_cut (g.S.EntryStream.kind c.args.stream.now) _ _ _ c.loop-run.invariant _ _ c.loop-run-test.true c.place-place.ensures in
    omega (arith, rises t)

pub slice_bounds-put_entries-end : goal.slice_bounds-put_entries-end
slice_bounds-put_entries-end g c =
    let t = entry_next_cut (g.S.EntryStream.kind c.args.stream.now) _ _ _ c.loop-run.invariant _ _ c.loop-run-test.true c.place-place.ensures in
    omega (arith, rises t)

pub put_entries-requires : goal.put_entries-requires
put_entries-requires g c =
    let K = g.S.EntryStream.kind c.args.stream.now in
    let t = entry_next_cut K _ _ _ c.loop-run.invariant _ _ c.loop-run-test.true c.place-place.ensures in
    let n = ap (λ k. K.wide * k) (entry_stream_counted K c.args.entries.now c.args.all.glyphs.now c.args.all.runs.now c.requires.cuts) in
    let part = between c.loop-run.from c.place-place.result c.args.entries.now in
    omega (arith, c.requires.space, c.loop-run.invariant.wrote.long, room t K.wide K.wides, length_wide K.bytes K.wide K.wides part)

pub put_run-requires : goal.put_run-requires
put_run-requires g c =
    let K = g.S.EntryStream.kind c.args.stream.now in
    let t = entry_next_cut K _ _ _ c.loop-run.invariant _ _ c.loop-run-test.true c.place-place.ensures in
    let n = ap (λ k. K.wide * k) (entry_stream_counted K c.args.entries.now c.args.all.glyphs.now c.args.all.runs.now c.requires.cuts) in
    let part = between c.loop-run.from c.place-place.result c.args.entries.now in
    rw c.glyphs_of.ensures
    (omega (
      arith,
      c.requires.space,
      c.loop-run.invariant.wrote.long,
      room t K.wide K.wides,
      c.put_entries.ensures.put.size,
      c.put_entries.ensures.long,
      length_wide K.bytes K.wide K.wides part,
    ))

pub loop-run-preserved : goal.loop-run-preserved
loop-run-preserved g c =
    let t = entry_next_cut (g.S.EntryStream.kind c.args.stream.now) _ _ _ c.loop-run.invariant _ _ c.loop-run-test.true c.place-place.ensures in
    left_as refl (sym (add-zero _)) (advance t (omega (arith, c.requires.space)) c.put_entries.ensures (rw c.glyphs_of.ensures at c.put_run.ensures))

pub put_entries-requires-2 : goal.put_entries-requires-2
put_entries-requires-2 g c =
    let K = g.S.EntryStream.kind c.args.stream.now in
    let t = entry_no_run_left K _ _ _ c.loop-run.invariant c.loop-run-test.false in
    let n = ap (λ k. K.wide * k) (entry_stream_counted K c.args.entries.now c.args.all.glyphs.now c.args.all.runs.now c.requires.cuts) in
    let part = drop c.loop-run.from c.args.entries.now in
    let e = ap (λ q. length (flat_map K.bytes q)) (take_rest c.args.entries.now c.loop-run.from) in
    omega (arith, e, c.requires.space, c.loop-run.invariant.wrote.long, rest t part refl K.wide K.wides, length_wide K.bytes K.wide K.wides part)

pub returns : goal.returns
returns g c =
    let t = entry_no_run_left (g.S.EntryStream.kind c.args.stream.now) _ _ _ c.loop-run.invariant c.loop-run-test.false in
    ended t _ (take_rest c.args.entries.now c.loop-run.from) (omega (arith, c.requires.space)) c.put_entries-2.ensures
