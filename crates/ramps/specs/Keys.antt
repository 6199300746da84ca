-- When two keys are the same: stop by stop, and bit by bit.
use Rattle.std.specs.Prelude.{Bool, ◌&&◌, List, ◌==◌}
use Rattle.std.specs.Cmp.Lexicographic.{pointwise}
use Rattle.draw.specs.declared.color.StopBits.{StopBits}

abbrev pub same_stop : StopBits → StopBits → Bool
same_stop s t = s.offset == t.offset && (s.r == t.r && (s.g == t.g && (s.b == t.b && s.a == t.a)))

abbrev pub same_key : List StopBits → List StopBits → Bool
same_key = pointwise same_stop
