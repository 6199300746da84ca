-- The furthest of the right edges.
use Rattle.std.proofs.Common.{ap, ◌∙◌, rules, tests, unwrap_or}
use Rattle.std.specs.Ordering.{max_by_ordering, nat_cmp}
use Rattle.std.proofs.lemmas.Iterator.{YieldsList-from_slice, YieldsList-from_map}
use Rattle.std.proofs.lemmas.Iterator.Consumers.{reduce_from_yields_List}
use Rattle.std.proofs.lemmas.List.Folds.{max_of_map}
use Rattle.atlas.specs.Shelf.{reach}
use Rattle.atlas.specs.ShelfFacts.{furthest_fold}
use Rattle.atlas.proofs.square.Square.far_end.Goals as goal

pub returns : goal.returns
returns c =
    let y = c.args.y in
    let ss = c.args.self.now.slots in
    let far = reduce_from_yields_List (λ p z. max_by_ordering (nat_cmp p z) p z) _ _ c.max.ensures.ran (YieldsList-from_map _ (reach y) (YieldsList-from_slice ss cc) c.map.ensures.closure (λ x r q k. search (rules, tests))) in
    c.unwrap_or.ensures ∙ ap (λ o. unwrap_or o 0) far ∙ max_of_map (reach y) ss ∙ furthest_fold y ss
