use Rattle.std.proofs.Common.{[], ◌∷◌, vec_items, sym, refl, subst}
use Rattle.std.proofs.lemmas.Slice.{pushed}
use Rattle.std.proofs.lemmas.Result.{err_from_is_err_and}
use Rattle.commands.specs.Entries.{entries_of}
use Rattle.job_text.specs.Parts.{left}
use Rattle.commands.proofs.Taken.{Sofar, one_more, not_read, all_read}
use Rattle.commands.proofs.lists.VecValue.read.Goals as goal

pub returns-in_err-read : goal.returns-in_err-read
returns-in_err-read g c =
    let R = g.T.Value.reads in
    let all = entries_of c.args.text.now in
    let p = err_from_is_err_and c.from_residual.result c.from_residual.ensures.1 in
    rw (p.1, p.2) (λ form. not_read R (subst (Sofar R all (vec_items c.loop-entry.entries)) c.in-Some.ensures.steps c.loop-entry.invariant) (c.in_err-read.ensures form))

pub loop-entry-preserved : goal.loop-entry-preserved
loop-entry-preserved g c =
    let R = g.T.Value.reads in
    let all = entries_of c.args.text.now in
    let x = c.in_ok-read.field-0 in
    subst (λ l. Sofar R all l (left c.next.new.self)) (sym (pushed (x ∷ []) refl c.in_ok-push.was c.push.ensures.items))
    (one_more R (subst (Sofar R all (vec_items c.loop-entry.entries)) c.in-Some.ensures.steps c.loop-entry.invariant) x c.in_ok-read.ensures)

pub returns : goal.returns
returns g c =
    let R = g.T.Value.reads in
    all_read R (subst (Sofar R (entries_of c.args.text.now) (vec_items c.loop-entry.entries)) c.in-None.ensures.steps.0 c.loop-entry.invariant)
