use Rattle.std.proofs.Common.{◌∷◌, length, refl, ap, arith}
use Rattle.std.specs.List.{flat_map}
use Rattle.byte_writers.specs.Bytes.{byte}
use Rattle.byte_writers.proofs.Puts.{length_wide, wrote_then, wrote_as}
use Rattle.supply.specs.Meaning.{Shape}
use Rattle.streams.proofs.path_tags.PathTagStreamEntryStreamU8.put_glyph.Goals as goal

pub put_all-requires : goal.put_all-requires
put_all-requires g c =
    omega (arith, ap (λ (s : Shape). length (flat_map byte s.tags)) c.outline_of.ensures.value, length_wide byte 1 (λ _. refl) c.outline_of.result.tags.now, c.put.ensures.put.size, c.put.ensures.long)

pub returns : goal.returns
returns g c = wrote_as (ap (λ (s : Shape). 0x20 ∷ flat_map byte s.tags) c.outline_of.ensures.value) (wrote_then (omega arith) c.put.ensures c.put_all.ensures)
