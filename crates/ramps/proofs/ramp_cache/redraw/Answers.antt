use Rattle.std.proofs.Common.{◌≡◌, ◌+◌, ◌<◌, [], length, get_or, take, sym, ap, ◌∙◌, arith}
use Rattle.std.proofs.lemmas.Bool.{and_parts, ltb-true}
use Rattle.std.proofs.lemmas.List.{length-map, get_or-map, take_more, take_more_set, get_or-set_other}
use Rattle.ramps.specs.Rows.{no_row}
use Rattle.ramps.specs.Sheet.{samples_of, row_words}
use Rattle.ramps.specs.View.{row_of}
use Rattle.ramps.specs.Held.{rows_of}
use Rattle.ramps.proofs.Drawn.{drawn_more, drawn_at}
use Rattle.ramps.proofs.SameKeys.{key_decides}
use Rattle.ramps.proofs.ramp_cache.redraw.Goals as goal
use Rattle.ramps.proofs.ramp_cache.redraw.Goals.{then-not-has_key_at, else-not-has_key_at}

pub loop-i-preserved : goal.loop-i-preserved
loop-i-preserved c =
    let i = c.loop-i.i in
    let rs = rows_of c.args.rows.now in
    let old = c.loop-i.samples in
    let items = c.as_slice-row-items.result.now in
    let h : i < length rs = rw (← c.as_slice-row-items.ensures.items, length-map) c.loop-i-test.true in
    let x : get_or rs i no_row ≡ row_of c.row-item.result =
    rw (← c.as_slice-row-items.ensures.items) (get_or-map row_of items i c.row-item.result no_row c.loop-i-test.true ∙ ap row_of (sym c.row-item.is))
    in
    elim c.if-not-has_key_at.branch [
      | then-not-has_key_at w ↦ (
          let words = w.samples.result in
          let e = w.samples.ensures ∙ ap row_words (sym x) in
          record {
            drawn = drawn_more rs i old _ words h c.loop-i.invariant.drawn (ap (take (i + 1)) w.samples-is ∙ take_more_set old i words (omega arith)) e;
            rest = λ j l. ap (λ xs. get_or xs j []) w.samples-is ∙ get_or-set_other old i j words [] (λ d. omega arith) ∙ c.loop-i.invariant.rest j (omega arith);
          })
      | else-not-has_key_at w ↦ (
          let p = and_parts _ _ (sym c.has_key_at.ensures ∙ w.if-not-has_key_at.false) in
          let e = c.loop-i.invariant.rest i (omega arith) ∙ drawn_at (rows_of c.args.before.now) c.args.samples.now i c.requires.drawn (ltb-true _ _ p.0)
          ∙ ap samples_of ((key_decides _ _).0 p.1) ∙ ap row_words (sym x) in
          record {
            drawn = drawn_more rs i old _ _ h c.loop-i.invariant.drawn (ap (take (i + 1)) w.samples-is ∙ take_more old i [] (omega arith)) e;
            rest = λ j l. ap (λ xs. get_or xs j []) w.samples-is ∙ c.loop-i.invariant.rest j (omega arith);
          })
    ]
