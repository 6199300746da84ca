-- The numbers of refusals and of extends.
use Rattle.std.specs.Prelude.{ℕ, cond, ◌==◌, Ok, Err, Result, nat_le}
use Rattle.records.specs.declared.refusal.Refusal.{Refusal}
use Rattle.records.specs.declared.refusal.Refusal.TheVariants.{NotFinite, OutOfRange, Full, TooMany}
use Rattle.records.specs.declared.patch.Extend.{Extend}
use Rattle.records.specs.declared.patch.Extend.TheVariants.{Pad, Repeat, Reflect}

-- the question that a refused scene call answers with no; none carries a value
abbrev pub question_of : Refusal → ℕ
question_of NotFinite = 1
question_of OutOfRange = 2
question_of Full = 3
question_of TooMany = 4

abbrev pub extend_number : Extend → ℕ
extend_number Pad = 0
extend_number Repeat = 1
extend_number Reflect = 2

-- of a number up to 2
abbrev pub extend_of : ℕ → Extend
extend_of n = cond (n == 0) Pad (cond (n == 1) Repeat Reflect)

-- a number past 2 is out of range
abbrev pub extend_from : ℕ → Result Extend Refusal
extend_from n = cond (nat_le n 2) (Ok (extend_of n)) (Err OutOfRange)
