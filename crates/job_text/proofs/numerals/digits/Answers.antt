use Rattle.std.proofs.Common.{◌*◌, ◌^◌, ap, ◌∙◌, arith}
use Rattle.std.specs.Char.{digit_value}
use Rattle.job_text.proofs.Digits.{Turn, overflows}
use Rattle.job_text.proofs.numerals.digits.Goals as goal
use Rattle.job_text.proofs.numerals.digits.Goals.{After-to_digit}

turn : (c : After-to_digit) → Turn c.args.base (2 ^ 64) c.loop-b.n c.loop-b.b-index (digit_value c.from.result) c.args.text.now
turn c = record { inside = c.loop-b-test.true; digit = ap digit_value c.from.ensures; reads = c.loop-b.invariant.reads }

pub returns-in_err-checked_mul : goal.returns-in_err-checked_mul
returns-in_err-checked_mul c =
    let digit = c.in_ok-digit.ensures.value in
    let product = ap (λ b. c.loop-b.n * b) c.from-in-loop-b.ensures in
    c.from_residual-in_err-checked_mul.ensures
    ∙ overflows (turn (goal.at.returns-in_err-checked_mul c).After-to_digit) digit.0 (omega (arith, c.in_err-checked_mul.ensures))

pub returns-in_err-n : goal.returns-in_err-n
returns-in_err-n c =
    let digit = c.in_ok-digit.ensures.value in
    let product = ap (λ b. c.loop-b.n * b) c.from-in-loop-b.ensures in
    c.from_residual-in_err-n.ensures
    ∙ overflows (turn (goal.at.returns-in_err-n c).After-to_digit) digit.0 (omega (arith, c.in_err-n.ensures, c.in_ok-checked_mul.ensures))
