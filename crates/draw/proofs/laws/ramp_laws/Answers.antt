use Rattle.draw.proofs.Effective.{largest, never_fall}
use Rattle.draw.proofs.Sampled.{before_first, at_first, past_last, shared, inside, row}
use Rattle.draw.proofs.laws.ramp_laws.Goals as goal

pub returns : goal.returns
returns c = record {
  largest = largest;
  never_fall = never_fall;
  before_first = before_first;
  at_first = at_first;
  past_last = past_last;
  shared = shared;
  inside = inside;
  row = row;
}
