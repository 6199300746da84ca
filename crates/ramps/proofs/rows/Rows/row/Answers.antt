use Rattle.std.proofs.Common.{rules, tests}
use Rattle.std.proofs.lemmas.Iterator.{YieldsList-from_slice}
use Rattle.std.proofs.lemmas.Iterator.Search.{position_from_yields_List}
use Rattle.ramps.specs.Rows.{has_key}
use Rattle.ramps.specs.View.{row_of}
use Rattle.ramps.proofs.Mapped.{position-in}
use Rattle.ramps.proofs.rows.Rows.row.Goals as goal

pub returns-clause-value : goal.returns-clause-value
returns-clause-value c =
    let k = c.args.key.now in
    let rows = c.as_slice.result.now in
    position-in row_of (has_key k) rows _ _ c.as_slice.ensures.items
    (position_from_yields_List (λ r. has_key k (row_of r)) _ _ c.position.result c.position.ensures.ran (YieldsList-from_slice rows cc) (λ x b q d. search (rules, tests)))
