use Rattle.std.proofs.Common.{◌≡◌, ◌<◌, [], length, refl, ap, ◌∙◌, arith, rules}
use Rattle.std.specs.Option.{option_map, unwrap_or}
use Rattle.job.proofs.Cuts.{cut, or_empty}
use Rattle.job.proofs.lines.LinesIterator.next.Goals as goal

pub returns-clause-steps : goal.returns-clause-steps
returns-clause-steps c =
    let text = c.args.self.now.rest.now in
    let some : 0 < length text = search rules in
    let or : c.unwrap_or-self.result.now ≡ unwrap_or (option_map (λ x. x.now) c.cut.result.1) [] = ap (λ x. x.now) c.unwrap_or-self.ensures ∙ or_empty (λ x. x.now) c.cut.result.1 _ refl in
    rw (c.without_return.ensures) (cut text _ _ _ some c.cut.ensures.front c.cut.ensures.back or)

pub returns-clause-goes : goal.returns-clause-goes
returns-clause-goes c = record {
  on = λ _. (tt, tt, omega (arith, ap length (returns-clause-steps c)));
  keeps = tt;
  rests = λ _. tt;
}
