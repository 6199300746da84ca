use Rattle.std.proofs.Common.{◌≡◌, ℕ, ◌≤◌, [], map, get_or, take}
use Rattle.ramps.specs.Sheet.{row_words}
use Rattle.ramps.specs.Held.{rows_of}
use Rattle.ramps.proofs.ramp_cache.redraw.Given as goal

-- the rows so far are drawn, and the others as they were
abbrev pub invariant-loop-i : goal.invariant-loop-i
invariant-loop-i l = record {
  drawn : take l.i l.samples ≡ map row_words (take l.i (rows_of l.rows));
  rest : (j : ℕ) → l.i ≤ j → get_or l.samples j [] ≡ get_or l.initial.samples j [];
}
