use Rattle.std.proofs.Common.{refl, arith}
use Rattle.byte_writers.specs.Bytes.{word_bytes}
use Rattle.byte_writers.proofs.Puts.{length_wide}
use Rattle.streams.proofs.path_data.PathDataStreamEntryStreamU32.put_entries.Goals as goal

pub put_all-requires : goal.put_all-requires
put_all-requires g c = omega (arith, length_wide word_bytes 4 (λ _. refl) c.args.entries.now)
