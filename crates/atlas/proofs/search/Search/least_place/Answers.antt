-- Between y and the next lower edge no row has a place that y has not.
use Rattle.std.proofs.Common.{sym, ◌∙◌, arith}
use Rattle.atlas.specs.Corners.{edge_past, rows_found, rows_step, rows_end, rows_none}
use Rattle.atlas.proofs.Seeks.{sought}
use Rattle.atlas.proofs.search.Search.least_place.Goals as goal

pub returns-in_err-checked_sub : goal.returns-in_err-checked_sub
returns-in_err-checked_sub c = c.from_residual.ensures ∙ rows_none (sought c.args.self.now) 0 (omega arith) (λ k u. absurd (omega arith))

pub returns-then-is_some : goal.returns-then-is_some
returns-then-is_some c = rows_found (sought c.args.self.now) c.loop-y.y c.in_row-place.result c.in_row-place.ensures (sym c.if-is_some.ensures) (omega arith) c.loop-y.invariant

pub returns-in_err-y : goal.returns-in_err-y
returns-in_err-y c =
    c.from_residual-in_err-y.ensures ∙ rows_end (sought c.args.self.now) c.loop-y.y c.in_row-place.result c.in_row-place.ensures (sym c.if-is_some.ensures) (sym c.next_edge.ensures ∙ c.in_err-y.was) (omega arith) c.loop-y.invariant

pub loop-y-smaller : goal.loop-y-smaller
loop-y-smaller c =
    let p = edge_past c.loop-y.y c.args.self.now.slots.now c.in_ok-y.y (sym c.next_edge.ensures ∙ c.in_ok-y.was) in
    omega arith

pub loop-y-preserved : goal.loop-y-preserved
loop-y-preserved c =
    rows_step (sought c.args.self.now) c.loop-y.y c.in_ok-y.y c.in_row-place.result c.in_row-place.ensures (sym c.if-is_some.ensures) (sym c.next_edge.ensures ∙ c.in_ok-y.was) (omega arith) c.loop-y.invariant

pub returns : goal.returns
returns c = rows_none (sought c.args.self.now) c.loop-y.y (omega arith) c.loop-y.invariant
