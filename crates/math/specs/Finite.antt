-- Whether all six numbers of a transform are finite.
use Rattle.std.specs.Prelude.{Bool, ◌&&◌}
use Rattle.std.specs.Float.{float_is_finite}
use Rattle.math.specs.Product.{at}
use Rattle.math.specs.declared.transform.Transform.{Transform}

abbrev pub all_finite : Transform → Bool
all_finite t =
    float_is_finite (at t.matrix 0) && float_is_finite (at t.matrix 1) && float_is_finite (at t.matrix 2) && float_is_finite (at t.matrix 3)
    && float_is_finite (at t.translation 0) && float_is_finite (at t.translation 1)
