use Rattle.std.proofs.Common.{rules, tests}
use Rattle.ramps.specs.Rows.{has_key, no_row}
use Rattle.ramps.specs.View.{key_of, row_of}
use Rattle.ramps.proofs.Picked.{test_at}
use Rattle.ramps.proofs.rows.Rows.has_key_at.Goals as goal

pub returns : goal.returns
returns c =
    test_at row_of (has_key (key_of c.args.key.now)) c.as_slice.result.now _ c.as_slice.ensures.items c.args.at no_row
    c.get.result _ c.get.ensures.lookup c.is_some_and.ensures (λ x p. search (rules, tests))
