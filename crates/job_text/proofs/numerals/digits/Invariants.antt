use Rattle.std.proofs.Common.{◌≡◌, ◌^◌, ◌<◌, drop}
use Rattle.job_text.specs.Numerals.{read_on, below}
use Rattle.job_text.proofs.numerals.digits.Given as goal

abbrev pub invariant-loop-b : goal.invariant-loop-b
invariant-loop-b l = record {
  fits : l.n < 2 ^ 64;
  reads : below (2 ^ 64) (read_on l.base l.n (drop l.b-index l.text)) ≡ below (2 ^ 64) (read_on l.base 0 l.text);
}
