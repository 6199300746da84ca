use Rattle.std.proofs.Common.{sym, ◌∙◌}
use lib.Ieee.{ne}
use Rattle.std.proofs.lemmas.Bool.{not-true, not-false}
use Rattle.draw.proofs.Walk.{shared_on, shared_ends}
use Rattle.draw.proofs.ramp.last_shared.Goals as goal

pub loop-stop-preserved : goal.loop-stop-preserved
unfolding ne
loop-stop-preserved c =
    sym (shared_on c.args.u c.loop-stop.effective c.effective_offset-effective.result c.loop-stop.last c.args.following.now c.loop-stop.stop-index _ c.loop-stop-test.true c.effective_offset-effective.ensures (not-false _ c.if-effective-u.false))
    ∙ c.loop-stop.invariant

pub returns-then-effective-u : goal.returns-then-effective-u
unfolding ne
returns-then-effective-u c =
    sym (shared_ends c.args.u c.loop-stop.effective c.effective_offset-effective.result c.loop-stop.last c.args.following.now c.loop-stop.stop-index _ c.loop-stop-test.true c.effective_offset-effective.ensures (not-true _ c.if-effective-u.true))
    ∙ c.loop-stop.invariant
