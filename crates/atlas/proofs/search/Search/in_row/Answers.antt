-- What is passed over is not free; what does not move is.
use Rattle.std.proofs.Common.{◌∙◌, arith}
use Rattle.atlas.specs.Corners.{row_past, row_step, row_found, row_none}
use Rattle.atlas.proofs.Seeks.{sought}
use Rattle.atlas.proofs.search.Search.in_row.Goals as goal

pub returns-in_err-checked_sub : goal.returns-in_err-checked_sub
returns-in_err-checked_sub c = c.from_residual.ensures ∙ row_none (sought c.args.self.now) c.args.y 0 (omega arith) (λ k u. absurd (omega arith))

pub returns-then-next-x : goal.returns-then-next-x
returns-then-next-x c = row_found (sought c.args.self.now) c.args.y c.loop-x.x c.past_all-next.result c.past_all-next.ensures c.if-next-x.true (omega arith) (omega arith) c.loop-x.invariant

pub loop-x-smaller : goal.loop-x-smaller
loop-x-smaller c =
    let p = row_past (sought c.args.self.now) c.args.y c.loop-x.x c.past_all-next.result c.past_all-next.ensures c.if-next-x.false in
    omega arith

pub loop-x-preserved : goal.loop-x-preserved
loop-x-preserved c = row_step (sought c.args.self.now) c.args.y c.loop-x.x c.past_all-next.result c.past_all-next.ensures c.loop-x.invariant

pub returns : goal.returns
returns c = row_none (sought c.args.self.now) c.args.y c.loop-x.x (omega arith) c.loop-x.invariant
