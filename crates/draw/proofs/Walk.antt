-- One step over the stops that share an offset, and its end.
use Rattle.std.proofs.Common.{◌≡◌, ℕ, ◌+◌, ◌<◌, true, false, List, length, get_or, drop, ◌∙◌}
use lib.Ieee.{Float, eq}
use Rattle.std.proofs.lemmas.List.{at_drop_more}
use Rattle.draw.specs.declared.color.Color.{Color}
use Rattle.draw.specs.declared.color.ColorStop.{ColorStop}
use Rattle.draw.specs.Ramp.{raised, last_shared}

module _ (u e o : Float) (c : Color) (ss : List ColorStop) (i : ℕ) (d : ColorStop) (h : i < length ss) (q : o ≡ raised e (get_or ss i d).offset) where
  pub shared_on : eq o u ≡ true → last_shared u e (drop i ss) c ≡ last_shared u o (drop (i + 1) ss) (get_or ss i d).color
  shared_on t = at_drop_more (λ l. last_shared u e l c) ss i d h ∙ rw (← q, t)

  pub shared_ends : eq o u ≡ false → last_shared u e (drop i ss) c ≡ c
  shared_ends t = at_drop_more (λ l. last_shared u e l c) ss i d h ∙ rw (← q, t)
