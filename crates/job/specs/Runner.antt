-- The lines that a runner has been given.
use Rattle.std.specs.Prelude.{ℕ, min, ◌+◌, ◌-◌, ◌^◌}
use Rattle.job.specs.declared.runner.Runner.{Runner}

-- the number of the last line, 0 before the first
abbrev pub line_number : Runner → ℕ
line_number r = r.line

-- the number after it; it stays at the greatest `usize`
abbrev pub next_number : ℕ → ℕ
next_number n = min (n + 1) (2 ^ 64 - 1)
