use Rattle.std.proofs.Common.{ℕ, ap, ◌∙◌}
use Rattle.std.proofs.lemmas.List.{length-replicate}
use Rattle.draw.specs.Ramp.{samples}
use Rattle.ramps.proofs.key.Key.samples.Goals as goal

pub returns : goal.returns
returns c = c.write_row.ensures.whole (length-replicate {A = ℕ} 512 0) ∙ ap samples (c.as_slice.ensures.value ∙ c.to_stops.ensures)
