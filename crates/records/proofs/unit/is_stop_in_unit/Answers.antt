use Rattle.std.proofs.Common.{◌≡◌, Bool, ◌&&◌, [], ◌∷◌, ap, ◌∙◌, rules, tests}
use Rattle.std.specs.List.{list_all}
use Rattle.std.proofs.Math.Bool.{and_assoc, and-true}
use Rattle.std.proofs.lemmas.Iterator.{YieldsList-from_slice}
use Rattle.std.proofs.lemmas.Iterator.Search.{all_from_yields_List}
use Rattle.records.specs.Unit.{in_unit}
use Rattle.records.proofs.unit.is_stop_in_unit.Goals as goal

all_of_five : {X : Type 0} (p : X → Bool) (a b c d e : X) → list_all p (a ∷ b ∷ c ∷ d ∷ e ∷ []) ≡ (p a && p b && p c && p d && p e)
all_of_five p a b c d e = simp (and_assoc, and-true)

pub returns : goal.returns
returns c =
    let e = all_from_yields_List in_unit _ _ c.all.result c.all.ensures.ran (YieldsList-from_slice c.numbers.result cc) (λ x b q k. search (rules, tests)) in
    let f = all_of_five in_unit c.args.stop.now.offset c.args.stop.now.color.r c.args.stop.now.color.g c.args.stop.now.color.b c.args.stop.now.color.a in
    e ∙ ap (list_all in_unit) c.numbers.ensures ∙ f
