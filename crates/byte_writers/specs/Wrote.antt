-- A write by a writer: in the same buffer, from the writer's place on.
use Rattle.std.specs.Prelude.{◌≡◌, ℕ, List, length}
use Rattle.byte_writers.specs.Put.{Put}
use Rattle.byte_writers.specs.declared.writer.Writer.{Writer}

pub record Wrote (before : Writer) (ys : List ℕ) (after : Writer) : Type 0 where
  pub same : after.out.ghost_name ≡ before.out.ghost_name
  pub long : length after.out.now ≡ length before.out.now
  pub put : Put before.out.now before.at ys after.at after.out.now
