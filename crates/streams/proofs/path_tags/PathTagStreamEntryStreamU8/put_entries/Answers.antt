use Rattle.std.proofs.Common.{refl, arith}
use Rattle.byte_writers.specs.Bytes.{byte}
use Rattle.byte_writers.proofs.Puts.{length_wide}
use Rattle.streams.proofs.path_tags.PathTagStreamEntryStreamU8.put_entries.Goals as goal

pub put_all-requires : goal.put_all-requires
put_all-requires g c = omega (arith, length_wide byte 1 (λ _. refl) c.args.entries.now)
