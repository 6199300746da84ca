use Rattle.std.proofs.Common.{◌≡◌, map, sym, ap, ◌∙◌, subst}
use Rattle.std.proofs.lemmas.List.{take-map}
use Rattle.fixed_vec.specs.Items.{items_of}
use Rattle.ramps.specs.Laws.{Distinct}
use Rattle.ramps.specs.Rows.{maintained}
use Rattle.ramps.specs.View.{row_of}
use Rattle.ramps.specs.Held.{rows_of}
use Rattle.ramps.proofs.Paging.{maintained_distinct}
use Rattle.ramps.proofs.rows.Rows.maintain.Goals as goal

pub invariant_of-self : goal.invariant_of-self
invariant_of-self c =
    let t = c.args.self.now in
    let e : maintained (rows_of t) ≡ map row_of (items_of c.truncate.new.self) = take-map row_of 64 (items_of t.rows) ∙ sym (ap (map row_of) c.truncate.ensures) in
    record { distinct = subst Distinct e (maintained_distinct (rows_of t) t.distinct) }

pub returns : goal.returns
returns c = ap (map row_of) c.truncate.ensures ∙ sym (take-map row_of 64 (items_of c.args.self.now.rows))
