-- The last shelf goes if it is empty, and stands else.
use Rattle.std.proofs.Common.{◌∙◌, sym, arith}
use Rattle.atlas.specs.ShelfFacts.{last_top, last_stands, last_goes}
use Rattle.atlas.proofs.square.Square.standing.Goals as goal

pub loop-last-preserved : goal.loop-last-preserved
loop-last-preserved c =
    let l = c.loop-last in
    let e = c.in-Some.ensures.cases.0 in
    record {
      deep = last_top c.args.self.now.slots l.stack.now c.in-Some.upper.now c.in-Some.last.now e l.end c.far_end.result l.invariant.deep;
      same = l.invariant.same ∙ last_goes _ l.stack.now c.in-Some.upper.now c.in-Some.last.now e l.end c.far_end.result l.invariant.deep c.far_end.ensures (omega arith);
    }

pub returns-then-far_end-gt0 : goal.returns-then-far_end-gt0
returns-then-far_end-gt0 c =
    let l = c.loop-last in
    let e = c.in-Some.ensures.cases.0 in
    sym (l.invariant.same ∙ last_stands _ l.stack.now c.in-Some.upper.now c.in-Some.last.now e l.end c.far_end.result l.invariant.deep c.far_end.ensures (omega arith))
