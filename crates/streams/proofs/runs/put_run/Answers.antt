use Rattle.std.proofs.Common.{◌+◌, ◌*◌, ◌++◌, length, get_or, take, sym, ap, ◌∙◌, arith}
use Rattle.std.specs.List.{flat_map}
use Rattle.std.proofs.lemmas.List.{length-append, take_all}
use Rattle.std.proofs.lemmas.Grind.{flat_map-append}
use lib.Ieee.{nan}
use Rattle.records.specs.declared.glyph.Glyph.{Glyph}
use Rattle.byte_writers.proofs.Puts.{length_wide, wide_le, room, flat_map_step, wrote_as, wrote_then}
use Rattle.streams.proofs.EntryCounted.{entry_put_by}
use Rattle.streams.proofs.runs.put_run.Goals as goal

-- what is read past a list's end
abbrev no_glyph : Glyph
no_glyph = record { id = 0; x = nan; y = nan }

pub put_glyph-requires : goal.put_glyph-requires
put_glyph-requires g c =
    let K = g.S.EntryStream.kind c.args.stream.now in
    let r = c.args.run.now in
    let put = flat_map (K.each r) in
    let gs = c.args.glyphs.now in
    let i = c.loop-glyph.glyph-index in
    let n = ap length (entry_put_by K gs r c.if-not-session.ensures) ∙ length-append (put gs) (K.close r) in
    omega (
      arith,
      c.requires,
      c.loop-glyph.invariant.put.size,
      c.loop-glyph.invariant.long,
      length_wide K.bytes K.wide K.wides (put (take i gs)),
      length_wide K.bytes K.wide K.wides (K.each r (get_or gs i no_glyph)),
      room (K.each r) K.wide gs i no_glyph c.loop-glyph-test.true,
      wide_le K.wide (length (put gs)) (length (K.close r)) (length (put gs) + length (K.close r)) (omega arith),
      ap (λ k. K.wide * k) n,
    )

pub loop-glyph-preserved : goal.loop-glyph-preserved
loop-glyph-preserved g c =
    let K = g.S.EntryStream.kind c.args.stream.now in
    let each = K.each c.args.run.now in
    let gs = c.args.glyphs.now in
    let i = c.loop-glyph.glyph-index in
    wrote_as (sym (flat_map-append K.bytes (flat_map each (take i gs)) (each (get_or gs i no_glyph))) ∙ ap (flat_map K.bytes) (sym (flat_map_step each gs i no_glyph c.loop-glyph-test.true)))
    (wrote_then (omega (arith, c.requires)) c.loop-glyph.invariant c.put_glyph.ensures)

pub put_close-requires : goal.put_close-requires
put_close-requires g c =
    let K = g.S.EntryStream.kind c.args.stream.now in
    let r = c.args.run.now in
    let put = flat_map (K.each r) in
    let gs = c.args.glyphs.now in
    let n = ap length (entry_put_by K gs r c.if-not-session.ensures) ∙ length-append (put gs) (K.close r) in
    let t = ap (λ xs. K.wide * length (put xs)) (take_all c.loop-glyph.glyph-index gs c.loop-glyph-test.false) in
    omega (
      arith,
      c.requires,
      c.loop-glyph.invariant.put.size,
      c.loop-glyph.invariant.long,
      length_wide K.bytes K.wide K.wides (put (take c.loop-glyph.glyph-index gs)),
      length_wide K.bytes K.wide K.wides (K.close r),
      wide_le K.wide (length (put gs)) (length (K.close r)) (length (put gs) + length (K.close r)) (omega arith),
      ap (λ k. K.wide * k) n,
    )

pub returns : goal.returns
returns g c =
    let K = g.S.EntryStream.kind c.args.stream.now in
    let r = c.args.run.now in
    let f = K.bytes in
    let put = flat_map (K.each r) in
    let gs = c.args.glyphs.now in
    let w = entry_put_by K gs r c.if-not-session.ensures in
    let t = ap put (take_all c.loop-glyph.glyph-index gs c.loop-glyph-test.false) in
    wrote_as (ap (λ v. flat_map f v ++ flat_map f (K.close r)) t ∙ sym (flat_map-append f (put gs) (K.close r)) ∙ ap (flat_map f) (sym w))
    (wrote_then (omega (arith, c.requires)) c.loop-glyph.invariant c.put_close.ensures)
