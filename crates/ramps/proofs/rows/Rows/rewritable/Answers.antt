use Rattle.std.proofs.Common.{◌≤◌, cond, None, length, rules, tests, sym, ap, ◌∙◌, arith}
use Rattle.std.specs.List.{position}
use Rattle.std.proofs.lemmas.Bool.{le-leb}
use Rattle.std.proofs.lemmas.Iterator.{YieldsList-from_slice}
use Rattle.std.proofs.lemmas.Iterator.Search.{position_from_yields_List}
use Rattle.ramps.specs.Rows.{is_stale}
use Rattle.ramps.specs.View.{row_of}
use Rattle.ramps.specs.Held.{rows_of}
use Rattle.ramps.proofs.Mapped.{position-in}
use Rattle.ramps.proofs.rows.Rows.rewritable.Goals as goal

pub returns : goal.returns
returns c =
    let p = c.args.page in
    let rows = c.as_slice.result.now in
    let all = rows_of c.args.self.now in
    let many : 64 ≤ length all = omega arith in
    position-in row_of (is_stale p) rows _ _ c.as_slice.ensures.items
    (position_from_yields_List (λ r. is_stale p (row_of r)) _ _ c.position.result c.position.ensures.ran (YieldsList-from_slice rows cc) (λ x b q d. search (rules, tests)))
    ∙ sym (ap (λ b. cond b (position (is_stale p) all) None) (le-leb 64 (length all) many))
