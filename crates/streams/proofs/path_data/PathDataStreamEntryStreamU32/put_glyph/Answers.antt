use Rattle.std.proofs.Common.{length, refl, ap, arith}
use Rattle.std.specs.List.{flat_map}
use Rattle.byte_writers.specs.Bytes.{word_bytes}
use Rattle.byte_writers.proofs.Puts.{length_wide}
use Rattle.supply.specs.Meaning.{Shape}
use Rattle.streams.proofs.path_data.PathDataStreamEntryStreamU32.put_glyph.Goals as goal

pub put_all-requires : goal.put_all-requires
put_all-requires g c =
    omega (arith, ap (λ (s : Shape). length (flat_map word_bytes s.words)) c.outline_of.ensures.value, length_wide word_bytes 4 (λ _. refl) c.outline_of.result.words.now)
