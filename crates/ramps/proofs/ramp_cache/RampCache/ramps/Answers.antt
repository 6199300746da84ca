use Rattle.std.proofs.Common.{take, ap, ◌∙◌}
use Rattle.std.specs.List.{flat_map}
use Rattle.ramps.specs.Cache.{rows_in}
use Rattle.ramps.proofs.Drawn.{drawn_flat}
use Rattle.ramps.proofs.ramp_cache.RampCache.ramps.Goals as goal

pub returns-clause-samples : goal.returns-clause-samples
returns-clause-samples c =
    let s = c.args.self.now in
    c.as_flattened.ensures.value ∙ ap (λ xs. flat_map (λ x. x) (take c.len-height.result xs)) c.as_slice.ensures.value
    ∙ ap (λ n. flat_map (λ x. x) (take n s.samples.items)) c.len-height.ensures.value ∙ drawn_flat (rows_in s) s.samples.items s.drawn
