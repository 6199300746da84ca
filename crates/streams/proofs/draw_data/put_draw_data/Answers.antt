use Rattle.std.proofs.Common.{refl, ◌∙◌, arith}
use Rattle.std.specs.List.{between}
use Rattle.std.proofs.lemmas.List.{take_rest}
use Rattle.byte_writers.proofs.Puts.{length_wide}
use Rattle.byte_writers.specs.Bytes.{word_bytes}
use Rattle.streams.proofs.Left.{rises, room, rest, advance, ended, left_as}
use Rattle.streams.proofs.Draw.{draw_counted, next_cut, passed, no_patch_left}
use Rattle.streams.proofs.draw_data.put_draw_data.Goals as goal
use Rattle.streams.proofs.draw_data.put_draw_data.Goals.{in-Some, in_default}

pub offset_bounds-words-from : goal.offset_bounds-words-from
offset_bounds-words-from g c =
    let t = next_cut (g.L.LateWords.late c.args.late.now) _ _ c.loop-k.invariant _ _ _ c.loop-k-test.true c.in-Some.ensures (c.as_slice-bound.ensures.value ∙ c.words-late_bound.ensures) in
    omega (arith, rises t)

pub slice_bounds-put_all-end : goal.slice_bounds-put_all-end
slice_bounds-put_all-end g c =
    let t = next_cut (g.L.LateWords.late c.args.late.now) _ _ c.loop-k.invariant _ _ _ c.loop-k-test.true c.in-Some.ensures (c.as_slice-bound.ensures.value ∙ c.words-late_bound.ensures) in
    omega (arith, rises t)

pub put_all-requires : goal.put_all-requires
put_all-requires g c =
    let late = g.L.LateWords.late c.args.late.now in
    let t = next_cut late _ _ c.loop-k.invariant _ _ _ c.loop-k-test.true c.in-Some.ensures (c.as_slice-bound.ensures.value ∙ c.words-late_bound.ensures) in
    omega (arith, c.requires.space, c.loop-k.invariant.wrote.long, room t 4 (λ _. refl), draw_counted late c.args.words.now c.args.patches.now c.requires.cuts)

pub put_all-requires-in-Some : goal.put_all-requires-in-Some
put_all-requires-in-Some g c =
    let late = g.L.LateWords.late c.args.late.now in
    let t = next_cut late _ _ c.loop-k.invariant _ _ _ c.loop-k-test.true c.in-Some.ensures (c.as_slice-bound.ensures.value ∙ c.words-late_bound.ensures) in
    let part = between c.loop-k.from c.in-Some.place c.args.words.now in
    omega (
      arith,
      c.requires.space,
      c.loop-k.invariant.wrote.long,
      room t 4 (λ _. refl),
      draw_counted late c.args.words.now c.args.patches.now c.requires.cuts,
      c.put_all.ensures.put.size,
      c.put_all.ensures.long,
      length_wide word_bytes 4 (λ _. refl) part,
    )

pub overflow_add-from : goal.overflow_add-from
overflow_add-from g c =
    let t = next_cut (g.L.LateWords.late c.args.late.now) _ _ c.loop-k.invariant _ _ _ c.loop-k-test.true c.in-Some.ensures (c.as_slice-bound.ensures.value ∙ c.words-late_bound.ensures) in
    omega (arith, rises t)

pub loop-k-preserved : goal.loop-k-preserved
loop-k-preserved g c =
    let late = g.L.LateWords.late c.args.late.now in
    elim c.match-owned_from.branch [
      | in-Some w ↦
          let t = next_cut late _ _ c.loop-k.invariant _ _ _ c.loop-k-test.true w.in-Some.ensures (w.as_slice-bound.ensures.value ∙ w.words-late_bound.ensures) in
          left_as w.writer-is w.from-is (advance t (omega (arith, c.requires.space)) w.put_all.ensures w.put_all-in-Some.ensures)
      | in_default w ↦ left_as w.writer-is w.from-is (passed late _ _ c.loop-k.invariant _ c.loop-k-test.true w.in_default.ensures)
    ]

pub put_all-requires-2 : goal.put_all-requires-2
put_all-requires-2 g c =
    let late = g.L.LateWords.late c.args.late.now in
    let t = no_patch_left late _ _ c.loop-k.invariant c.loop-k-test.false in
    omega (arith, c.requires.space, c.loop-k.invariant.wrote.long, rest t _ (take_rest c.args.words.now c.loop-k.from) 4 (λ _. refl), draw_counted late c.args.words.now c.args.patches.now c.requires.cuts)

pub returns : goal.returns
returns g c =
    let t = no_patch_left (g.L.LateWords.late c.args.late.now) _ _ c.loop-k.invariant c.loop-k-test.false in
    ended t _ (take_rest c.args.words.now c.loop-k.from) (omega (arith, c.requires.space)) c.put_all-2.ensures
